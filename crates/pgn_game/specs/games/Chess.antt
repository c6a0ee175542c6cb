-- **Definition**: what games need of chess: first positions, moves, and the texts of moves.
-- The names are `unfoldable`, so that goals show them as they are.
use Rattle.std.specs.Prelude.{ℕ, Bool, true, false, List, Option, Result, option_map, unwrap_or}
use Rattle.chess_rules.specs.declared.piece.Colour.TheVariants.{White, Black}
use Rattle.chess_rules.specs.declared.position.Move.{Move}
use Rattle.chess_rules.specs.declared.position.Parts.{Parts}
use Rattle.chess_rules.specs.Position.{initial}
use Rattle.chess_rules.specs.Legal.{legal}
use Rattle.chess_text.specs.declared.fen.FenFault.{FenFault}
use Rattle.chess_rules.specs.declared.position.Played.{Played}
use Rattle.chess_text.specs.declared.resolution.SanFault.{SanFault}
use Rattle.chess_text.specs.Fen.{read}
use Rattle.chess_text.specs.Form.{form_of}
use Rattle.chess_text.specs.MoveOfForm.{move_of_form}
use Rattle.chess_text.specs.San.{san}

-- the usual first position (FIDE 2.3)
unfoldable pub first_position : Parts
first_position = initial

-- the position of a FEN value, or the field at fault (PGN 9.7.2, 16.1)
unfoldable pub position_of : List ℕ → Result Parts FenFault
position_of text = read text

-- What a symbol means as a move: None if it lacks the pattern of a move; else the one legal move
-- that agrees with it and the position after it, or why there is none (PGN 8.2.3).
unfoldable pub move_of : Parts → List ℕ → Option (Result Played SanFault)
move_of p s = option_map (move_of_form p) (form_of s)

-- how a legal move is written (PGN 8.2.3)
unfoldable pub text_of_move : Parts → Move → List ℕ
text_of_move p m = san p m

-- the position after a legal move (FIDE 3)
unfoldable pub play : Parts → Move → Parts
play p m = unwrap_or (legal p m) p

abbrev pub is_black_to_move : Parts → Bool
is_black_to_move p = elim p.side [ White ↦ false | Black ↦ true ]
