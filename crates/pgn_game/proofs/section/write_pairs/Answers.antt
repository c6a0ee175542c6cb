use Rattle.pgn_game.proofs.Words.{ap, sym, arith, take_all, ◌∙◌, err_from_is_err_and, one_more, other_line, rules}
use Rattle.pgn_game.proofs.putting.WritesInTurn.{next_text, next_front}
use Rattle.pgn_game.proofs.section.write_pairs.Goals as goal

pub returns-in_err-write_other : goal.returns-in_err-write_other
returns-in_err-write_other g c =
    let other = c.in_err-write_other.ensures in
    rw (err_from_is_err_and c.from_residual.result c.from_residual.ensures.1).1
    (record {
      written = next_front (other_line c.args.has_fen) c.args.pairs.now c.loop-index.index c.at.result.now _ _ _
          (omega (arith, c.loop-index-test.true, c.len-index-end.ensures.length)) (sym c.at.ensures) c.loop-index.invariant.1 other.written;
      counted = other.counted ∙ ap one_more c.loop-index.invariant.0;
    })

pub loop-index-preserved : goal.loop-index-preserved
loop-index-preserved g c = search (rules, next_text)

pub returns : goal.returns
returns g c = search (rules, take_all)
