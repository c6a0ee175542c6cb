-- **Bookkeeping**: how the words of a line of play are found.
use Rattle.std.specs.Prelude.{◌≡◌, ℕ, ◌-◌, ◌<◌, ◌≤◌, false, List, [], ◌∷◌, ◌++◌, length, take, drop, get_or, Option, None, Some}
use Rattle.pgn_lexer.specs.Bytes.{is_space}
use Rattle.pgn_game.specs.declared.line_of_play.Span.{Span}
use Rattle.pgn_game.specs.public.LineOfPlay.{Word, move_texts, word_of, words_behind}

-- the words of the text from a place on, and those of them that are to name moves
abbrev pub words_from : List ℕ → ℕ → List Word
words_from text at = words_behind at [] (drop at text)

abbrev pub moves_from : List ℕ → ℕ → List Word
moves_from text at = move_texts at (drop at text)

-- the bytes between two places, and the word that they are
abbrev pub bytes_between : List ℕ → ℕ → ℕ → List ℕ
bytes_between text begin end = take (end - begin) (drop begin text)

abbrev pub word_in : List ℕ → Span → Word
word_in text span = record { at = span.begin; text = bytes_between text span.begin span.end }

-- the places of a word in the text, which begins at a place or behind it
pub record IsWithin (text : List ℕ) (from : ℕ) (span : Span) : Type 0 where
  pub from_there : from ≤ span.begin
  pub some : span.begin < span.end
  pub within : span.end ≤ length text

-- of the words that a test or none leaves (`all`), the first one from the place on was found, and
-- the others are behind it; or there is none
abbrev pub FindsFirst : (all : List ℕ → ℕ → List Word) → List ℕ → ℕ → Option Span → Type 0
FindsFirst all text from None = all text from ≡ []
FindsFirst all text from (Some span) =
    IsWithin text from span × (all text from ≡ word_in text span ∷ all text span.end)

-- white space ends at n, and the same words follow
pub record SpaceEnds (text : List ℕ) (from n : ℕ) : Type 0 where
  pub least : from ≤ n
  pub within : n ≤ length text
  pub words : words_from text from ≡ words_from text n
  pub ends : n < length text → is_space (get_or text n 0) ≡ false

-- a word begins at this place
pub record WordBegins (text : List ℕ) (begin : ℕ) : Type 0 where
  pub some : begin < length text
  pub begins : is_space (get_or text begin 0) ≡ false

-- the word that begins at a place ends at n, and the others are behind it
pub record WordEnds (text : List ℕ) (begin n : ℕ) : Type 0 where
  pub some : begin < n
  pub within : n ≤ length text
  pub words : words_from text begin ≡ word_of begin (bytes_between text begin n) ++ words_from text n
