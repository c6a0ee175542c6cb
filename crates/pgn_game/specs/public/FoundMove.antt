-- **Definition**: the move that a symbol means, or the row of the fault table that rejects it.
use Rattle.std.specs.Prelude.{true, false, Option, None, Some, Result, Ok, Err}
use Rattle.chess_rules.specs.declared.position.Parts.{Parts}
use Rattle.chess_rules.specs.declared.position.Played.{Played}
use Rattle.chess_text.specs.declared.resolution.SanFault.{SanFault}
use Rattle.chess_text.specs.declared.resolution.SanFault.TheVariants.{NoMove, Ambiguous}
use Rattle.pgn_game.specs.declared.reason.Reason.{Reason}
use Rattle.pgn_game.specs.declared.reason.Reason.TheVariants.{NotAMove, IllegalMove, AmbiguousMove, MoveLimit}
use Rattle.pgn_game.specs.games.FaultTable.{is_at_limit}

-- the result for what a text means in this position: the move, unless a number above 99,999 would
-- follow, or the reason why it is rejected
abbrev pub found_in : Parts → Option (Result Played SanFault) → Result Played Reason
found_in p None = Err NotAMove
found_in p (Some (Err NoMove)) = Err IllegalMove
found_in p (Some (Err Ambiguous)) = Err AmbiguousMove
found_in p (Some (Ok played)) = elim (is_at_limit p) [ true ↦ Err MoveLimit | false ↦ Ok played ]
