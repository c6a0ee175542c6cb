use Rattle.pgn_game.proofs.Words.{sym, ◌∙◌, missing_of, known_result, roster, drop_all, rules}
use Rattle.pgn_game.proofs.pairs.ExportedValues.{seven, value_of-at}
use Rattle.pgn_game.proofs.pairs.ValuesByName.{bytes_eq-true}
use Rattle.pgn_game.proofs.section.unknown_value.Goals as goal

pub returns-then-eq : goal.returns-then-eq
returns-then-eq c =
    let same = sym c.if-eq.true ∙ c.eq.ensures in
    record {
      value = sym (c.loop-index.invariant
          ∙ value_of-at (roster (known_result (missing_of c.args.missing_result))) c.loop-index.index _ c.args.name.now c.roster_pair.ensures.pair same);
      fits = rw (bytes_eq-true c.args.name.now _ (sym same)) c.roster_pair.ensures.fits;
    }

pub loop-index-preserved : goal.loop-index-preserved
loop-index-preserved c = search (rules, value_of-at)

pub returns : goal.returns
returns c = record { value = search (rules, drop_all, seven); fits = tt }
