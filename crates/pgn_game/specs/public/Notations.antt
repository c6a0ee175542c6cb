-- **Definition**: the move that a text names in a notation, or the row of the fault table that
-- rejects it; and how many pairs of an origin and a target are tried to find it.
use Rattle.std.specs.Prelude.{◌≡◌, ℕ, List, Option, None, Some, Result, Ok, Err}
use Rattle.chess_rules.specs.declared.position.Parts.{Parts}
use Rattle.chess_rules.specs.declared.position.Played.{Played}
use Rattle.chess_text.specs.declared.resolution.SanFault.{SanFault}
use Rattle.chess_text.specs.declared.resolution.SanFault.TheVariants.{NoMove}
use Rattle.chess_text.specs.declared.uci.UciFault.{UciFault}
use Rattle.chess_text.specs.declared.uci.UciFault.TheVariants as uci_faults
use Rattle.chess_text.specs.Uci.{move_of_uci}
use Rattle.pgn_game.specs.declared.notation.Notation.{Notation}
use Rattle.pgn_game.specs.declared.notation.Notation.TheVariants.{San, Uci}
use Rattle.pgn_game.specs.declared.reason.Reason.{Reason}
use Rattle.pgn_game.specs.games.Chess.{move_of}
use Rattle.pgn_game.specs.public.FoundMove.{found_in}
use Rattle.pgn_game.specs.public.Tried.{Costs}

-- what a text in UCI means, in the terms of a symbol of PGN: None if it is not that of any move
abbrev pub meaning_of : Result Played UciFault → Option (Result Played SanFault)
meaning_of (Ok played) = Some (Ok played)
meaning_of (Err uci_faults.NotAMove) = None
meaning_of (Err uci_faults.IllegalMove) = Some (Err NoMove)

-- the move that a text names in a position, with the position after it, or why it names none
abbrev pub named_in : Notation → Parts → List ℕ → Result Played Reason
named_in San p s = found_in p (move_of p s)
named_in Uci p s = found_in p (meaning_of (move_of_uci p s))

-- the pairs of a text in UCI: that of the move, if it is the text of one
abbrev pub uci_pairs : Result Played UciFault → ℕ
uci_pairs (Ok played) = 1
uci_pairs (Err uci_faults.NotAMove) = 0
uci_pairs (Err uci_faults.IllegalMove) = 1

-- For a text in a notation n pairs are tried.
abbrev pub CostsIn : Notation → Parts → List ℕ → ℕ → Type 0
CostsIn San p s n = Costs p s n
CostsIn Uci p s n = n ≡ uci_pairs (move_of_uci p s)
