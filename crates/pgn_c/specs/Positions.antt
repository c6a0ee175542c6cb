-- **Definition**: results about positions and moves, as C gets them.
-- `before` and `after` are the bytes of the buffer before a call and after it.
use Rattle.std.specs.Prelude.{◌≡◌, ℕ, ◌<◌, ◌≤◌, List, [], ◌++◌, length, drop, ◌==◌, if◌then◌else◌, Option, Some, None, Result, Ok, Err}
use Rattle.chess_rules.specs.declared.position.Parts.{Parts}
use Rattle.chess_text.specs.declared.fen.FenFault.{FenFault}
use Rattle.chess_rules.specs.declared.position.Played.{Played}
use Rattle.chess_text.specs.Fen.{fen_text}
use Rattle.chess_text.specs.Key.{position_key}
use Rattle.chess_text.specs.San.{san}
use Rattle.chess_text.specs.Uci.{uci}
use Rattle.pgn_game.specs.declared.notation.Notation.{Notation}
use Rattle.pgn_game.specs.declared.notation.Notation.TheVariants.{San, Uci}
use Rattle.pgn_game.specs.declared.reason.Reason.{Reason}
use Rattle.pgn_game.specs.public.Notations.{named_in}
use Rattle.pgn_game.specs.games.Reason.{number_of}
use Rattle.pgn_c.specs.declared.fen.PgnText.{PgnText}
use Rattle.pgn_c.specs.declared.san.PgnMove.{PgnMove}
use Rattle.pgn_c.specs.Results.{padded}

-- ---- a FEN

-- The text is put into the front of the buffer if it fits, and else the buffer stays as it is. The
-- result has its length either way.
pub record Puts (text before after : List ℕ) (result : PgnText) : Type 0 where
  pub fits : length text ≤ length before
      → (after ≡ text ++ drop (length text) before) × (result ≡ record { status = 0; field = 0; length = length text })
  pub full : length before < length text
      → (after ≡ before) × (result ≡ record { status = 2; field = 0; length = length text })

-- the canonical text of the position that was read is put into the buffer; if the FEN is no
-- position, the result has the field at fault
abbrev pub Normalizes : Result Parts FenFault → List ℕ → List ℕ → PgnText → Type 0
Normalizes (Ok position) before after result = Puts (fen_text position) before after result
Normalizes (Err fault) before after result =
    (after ≡ before) × (result ≡ record { status = 1; field = fault.field; length = 0 })

-- the same for the key of the position (FIDE 9.2.3)
abbrev pub WritesKey : Result Parts FenFault → List ℕ → List ℕ → PgnText → Type 0
WritesKey (Ok position) before after result = Puts (position_key position) before after result
WritesKey (Err fault) before after result =
    (after ≡ before) × (result ≡ record { status = 1; field = fault.field; length = 0 })

-- ---- a move

-- the notation with this number: 0 is SAN, 1 is UCI
abbrev pub notation_of : ℕ → Option Notation
notation_of number = if number == 0 then Some San else (if number == 1 then Some Uci else None)

-- the result without a move: its status, the number of a fault, and the field of a FEN at fault
abbrev pub failed_move : ℕ → ℕ → ℕ → PgnMove
failed_move status fault field =
    record { status = status; fault = fault; field = field; san = padded 8 []; uci = padded 8 []; fen = padded 96 [] }

-- the result for a move that was found, with its SAN, its UCI and the FEN of the position after it,
-- or for the reason why none was
abbrev pub move_result : Parts → Result Played Reason → PgnMove
move_result position (Ok played) =
    record {
      status = 0;
      fault = 0;
      field = 0;
      san = padded 8 (san position played.mv);
      uci = padded 8 (uci played.mv);
      fen = padded 96 (fen_text played.next);
    }
move_result position (Err reason) = failed_move 1 (number_of reason) 0

-- the same for a FEN that is read first; one that is no position is 26, with the field at fault
abbrev pub san_result : Notation → Result Parts FenFault → List ℕ → PgnMove
san_result notation (Ok position) text = move_result position (named_in notation position text)
san_result notation (Err fault) text = failed_move 1 26 fault.field

-- the same for the number of a notation; the status is 3 if there is none
abbrev pub san_result_in : Option Notation → Result Parts FenFault → List ℕ → PgnMove
san_result_in (Some notation) position text = san_result notation position text
san_result_in None position text = failed_move 3 0 0
