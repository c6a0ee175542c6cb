use Rattle.chess_rules.proofs.Words.{candidates, members, ◌≡◌, arith, ap, append_assoc, append-nil, length, length-append}
use Rattle.chess_rules.proofs.trying.CandidatesAreFew.{apart_there, candidates_apart}
use Rattle.chess_rules.proofs.trying.SetsToPairs.{few_there}
use Rattle.chess_rules.proofs.candidates.origins.Goals as goal

pub loop-origin-preserved : goal.loop-origin-preserved
loop-origin-preserved c = grind (arith, append_assoc)

pub loop-origin-smaller : goal.loop-origin-smaller
loop-origin-smaller c = omega (arith, ap length c.in-Some.ensures.next)

pub push-requires : goal.push-requires
push-requires c =
    omega (
      arith,
      few_there c.args.position.now c.args.kind c.args.target c.recall_invariant.ensures.file c.recall_invariant.ensures.rank,
      ap length c.loop-origin.invariant.all,
      length-append c.loop-origin.origins.items (members c.loop-origin.left),
      ap length c.in-Some.ensures.next,
    )

pub returns : goal.returns
returns c =
    let all : c.loop-origin.origins.items ≡ candidates c.args.position.now c.args.kind c.args.target = grind (arith, append-nil) in
    record {
      exactly = grind arith;
      once = apart_there (candidates c.args.position.now c.args.kind c.args.target) c.loop-origin.origins.items all
          (candidates_apart c.args.position.now c.args.kind c.args.target);
      few = omega (
        arith,
        few_there c.args.position.now c.args.kind c.args.target c.recall_invariant.ensures.file c.recall_invariant.ensures.rank,
        ap length all,
      );
    }
