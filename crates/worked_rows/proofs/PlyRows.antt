-- Worked rows of a line of play: the words of a text that are to name moves, and the plies.
use Rattle.worked_rows.proofs.Words.{◌≡◌, ℕ, List, [], ◌∷◌, Some, map, refl, codes, squares, agreeing, NotAMove, IllegalMove, first_position, move_of}
use Rattle.pgn_game.specs.games.Chess.{text_of_move}
use Rattle.pgn_game.specs.public.LineOfPlay.{Line, Word, line_of_text, move_texts}
use Rattle.pgn_game.specs.declared.notation.Notation.TheVariants.{San, Uci}

abbrev word : ℕ → List ℕ → Word
word at text = record { at = at; text = text }

no_words : move_texts 0 (codes "") ≡ []
no_words = refl

numbers_alone : move_texts 0 (codes " 1. 1... . 12 7.2.") ≡ []
numbers_alone = refl

words_with_places : move_texts 0 (codes "1. e4 e5 2. Nf3") ≡ word 3 (codes "e4") ∷ word 6 (codes "e5") ∷ word 12 (codes "Nf3") ∷ []
words_with_places = refl

-- a tabulator, a line feed and a carriage return
other_white_space : move_texts 0 (101 ∷ 52 ∷ 9 ∷ 10 ∷ 13 ∷ 101 ∷ 53 ∷ 10 ∷ []) ≡ word 0 (codes "e4") ∷ word 5 (codes "e5") ∷ []
other_white_space = refl

-- a number is passed only by itself, and a marker is a word
other_words : move_texts 0 (codes "1.e4 1-0") ≡ word 0 (codes "1.e4") ∷ word 5 (codes "1-0") ∷ []
other_words = refl

abbrev sans : Line → List (List ℕ)
sans line = map (λ x. x.san) line.plies

in_san : Line
in_san = line_of_text San first_position (codes "1. e4 1-0")

in_uci : Line
in_uci = line_of_text Uci first_position (codes "g1f3 g1f3")

plies_in_san : sans in_san ≡ codes "e4" ∷ []
unfolding in_san move_of text_of_move first_position squares agreeing
plies_in_san = refl

fault_in_san : in_san.fault ≡ Some (record { at = 6; reason = NotAMove })
unfolding in_san move_of text_of_move first_position squares agreeing
fault_in_san = refl

plies_in_uci : sans in_uci ≡ codes "Nf3" ∷ []
unfolding in_uci move_of text_of_move first_position squares agreeing
plies_in_uci = refl

fault_in_uci : in_uci.fault ≡ Some (record { at = 5; reason = IllegalMove })
unfolding in_uci move_of text_of_move first_position squares agreeing
fault_in_uci = refl
