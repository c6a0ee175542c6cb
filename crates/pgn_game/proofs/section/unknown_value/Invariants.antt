use Rattle.pgn_game.proofs.Words.{◌≡◌, drop, missing_of, known_result, value_of, roster}
use Rattle.pgn_game.proofs.section.unknown_value.Given as goal

abbrev pub invariant-loop-index : goal.invariant-loop-index
invariant-loop-index l = value_of (roster (known_result (missing_of l.missing_result))) l.name
    ≡ value_of (drop l.index (roster (known_result (missing_of l.missing_result)))) l.name
