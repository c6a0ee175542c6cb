-- The next ply of a line of play, by the next word that is to name a move.
use Rattle.pgn_game.proofs.Words.{◌≡◌, ℕ, List, ◌∷◌, arith, Ok, Some, Parts, san, text_of_move, Ahead, NextMove, NextPly, bytes_between, moves_from, word_in, common_steps}
use Rattle.pgn_game.specs.declared.line_of_play.MoveOfLine.{MoveOfLine}
use Rattle.pgn_game.specs.declared.line_of_play.Ply.{Ply as CodePly}
use Rattle.pgn_game.specs.declared.line_of_play.Span.{Span}
use Rattle.pgn_game.specs.declared.notation.Notation.{Notation}
use Rattle.pgn_game.specs.public.Notations.{named_in}

-- what was seen before the call
abbrev seen : Notation → Parts → List ℕ → ℕ → Ahead
seen n p text at = record { notation = n; position = p; words = moves_from text at }

pub move_next : (old : Ahead) (n : Notation) (p : Parts) (text : List ℕ) (at : ℕ) (span : Span) (x : MoveOfLine) → seen n p text at ≡ old
    → moves_from text at ≡ word_in text span ∷ moves_from text span.end → Ok x.played ≡ named_in n p (bytes_between text span.begin span.end)
    → x.at ≡ span.begin → NextMove old (Ok (Some x)) (seen n x.played.next text span.end)
move_next old n p text at span x view words named place =
    grind (arith, common_steps)

-- with its SAN
pub ply_next : (old new : Ahead) (x : MoveOfLine) (y : CodePly) → NextMove old (Ok (Some x)) new → y.at ≡ x.at → y.played ≡ x.played
    → y.san.items ≡ san old.position x.played.mv → NextPly old (Ok (Some y)) new
unfolding text_of_move
ply_next old new x y next place played written =
    grind (arith, common_steps)
