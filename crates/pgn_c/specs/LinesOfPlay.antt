-- **Definition**: a line of play, as C gets it.
-- Letters: x is a ply, xs are plies. `before` and `after` are the bytes of the buffer before a call
-- and after it.
use Rattle.std.specs.Prelude.{◌≡◌, ℕ, ◌+◌, ◌<◌, List, [], ◌∷◌, ◌++◌, length, ◌==◌, if◌then◌else◌, Option, Some, None, Result, Ok, Err}
use Rattle.chess_rules.specs.declared.position.Parts.{Parts}
use Rattle.chess_text.specs.declared.fen.FenFault.{FenFault}
use Rattle.chess_text.specs.Fen.{fen_text}
use Rattle.chess_text.specs.Key.{position_key}
use Rattle.chess_text.specs.Uci.{uci}
use Rattle.pgn_game.specs.declared.notation.Notation.TheVariants.{San, Uci}
use Rattle.pgn_game.specs.declared.reason.Fault.{Fault}
use Rattle.pgn_game.specs.public.LineOfPlay.{Line, Ply, line_of_text}
use Rattle.pgn_game.specs.games.Reason.{number_of}
use Rattle.pgn_c.specs.declared.line_of_play.Format.{Format}
use Rattle.pgn_c.specs.declared.line_of_play.PgnPlies.{PgnPlies}
use Rattle.pgn_c.specs.declared.line_of_play.PlyFields.{PlyFields}
use Rattle.pgn_c.specs.declared.line_of_play.PlyFields.TheVariants.{All, Fen, Key}
use Rattle.pgn_c.specs.Results.{IsFilled}

-- The format with this number. Moves are in SAN with 0, 2 and 4, and in UCI with 1, 3 and 5. The
-- line of a ply has all fields with 0 and 1, the FEN alone with 2 and 3, and the key alone with 4
-- and 5.
abbrev pub format_of : ℕ → Option Format
format_of number =
    if number == 0 then Some (record { notation = San; fields = All })
    else (if number == 1 then Some (record { notation = Uci; fields = All })
    else (if number == 2 then Some (record { notation = San; fields = Fen })
    else (if number == 3 then Some (record { notation = Uci; fields = Fen })
    else (if number == 4 then Some (record { notation = San; fields = Key })
    else (if number == 5 then Some (record { notation = Uci; fields = Key }) else None)))))

-- a field of a line, and the byte behind it
abbrev pub field : List ℕ → ℕ → List ℕ
field text end = text ++ end ∷ []

-- the line of a ply: its SAN and its UCI, each with a tab (9) behind it, and the FEN of the
-- position after it, with a line feed (10); or the last field alone, or the key of that position
abbrev pub ply_line : PlyFields → Ply → List ℕ
ply_line All x = field x.san 9 ++ field (uci x.played.mv) 9 ++ field (fen_text x.played.next) 10
ply_line Fen x = field (fen_text x.played.next) 10
ply_line Key x = field (position_key x.played.next) 10

abbrev pub ply_lines : PlyFields → List Ply → List ℕ
ply_lines fields [] = []
ply_lines fields (x ∷ xs) = ply_line fields x ++ ply_lines fields xs

-- the result of a call that writes nothing: its status, the number of a fault, and the field of a
-- FEN at fault
abbrev pub nothing : ℕ → ℕ → ℕ → PgnPlies
nothing status fault field =
    record { status = status; fault = fault; field = field; place = 0; written = 0; plies = 0 }

-- The result by what is left behind the plies whose lines were written: nothing (0), a word that
-- names no move (1), or plies, whose lines the buffer has no room for (2). Behind the fault are how
-- many bytes were written, and of how many plies they are.
abbrev pub line_result : List Ply → Option Fault → ℕ → ℕ → PgnPlies
line_result [] None written plies =
    record { status = 0; fault = 0; field = 0; place = 0; written = written; plies = plies }
line_result [] (Some f) written plies =
    record { status = 1; fault = number_of f.reason; field = 0; place = f.at; written = written; plies = plies }
line_result (x ∷ xs) fault written plies =
    record { status = 2; fault = 51; field = 0; place = x.at; written = written; plies = plies }

-- if plies are left, the line of the first one does not fit behind what was written
abbrev pub IsFullFor : PlyFields → List Ply → ℕ → ℕ → Type 0
IsFullFor fields [] written capacity = Unit {0}
IsFullFor fields (x ∷ xs) written capacity = capacity < written + length (ply_line fields x)

-- The lines of the first plies were written, of as many as the buffer has room for.
pub record WritesLine (fields : PlyFields) (line : Line) (before after : List ℕ) (result : PgnPlies) : Type 0 where
  pub put : List Ply
  pub left : List Ply
  pub plies : line.plies ≡ put ++ left
  pub filled : IsFilled before after (ply_lines fields put)
  pub full : IsFullFor fields left (length (ply_lines fields put)) (length before)
  pub is_result : result ≡ line_result left line.fault (length (ply_lines fields put)) (length put)

-- The line of play of a text is read and written, in this format, from the position of a FEN on. A
-- FEN that is no position is 26, with the field at fault. The status is 3 if there is no such
-- format.
abbrev pub WritesLineIn : Option Format → Result Parts FenFault → List ℕ → List ℕ → List ℕ → PgnPlies → Type 0
WritesLineIn None position text before after result = (after ≡ before) × (result ≡ nothing 3 0 0)
WritesLineIn (Some format) (Err fault) text before after result = (after ≡ before) × (result ≡ nothing 1 26 fault.field)
WritesLineIn (Some format) (Ok position) text before after result =
    WritesLine format.fields (line_of_text format.notation position text) before after result
