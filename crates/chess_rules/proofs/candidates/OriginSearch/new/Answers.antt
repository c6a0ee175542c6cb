use Rattle.chess_rules.proofs.Words.{length, ap, arith}
use Rattle.chess_rules.proofs.trying.SetsToPairs.{clear_one_by_one, few_there}
use Rattle.chess_rules.proofs.candidates.OriginSearch.new.Goals as goal

pub returns-clause-all : goal.returns-clause-all
returns-clause-all c = clear_one_by_one c.args.position.now c.args.kind c.args.target c.possible_origins.result c.possible_origins.ensures

pub returns-clause-few : goal.returns-clause-few
returns-clause-few c =
    omega (
      arith,
      few_there c.args.position.now c.args.kind c.args.target c.recall_invariant.ensures.file c.recall_invariant.ensures.rank,
      ap length (clear_one_by_one c.args.position.now c.args.kind c.args.target c.possible_origins.result c.possible_origins.ensures),
    )
