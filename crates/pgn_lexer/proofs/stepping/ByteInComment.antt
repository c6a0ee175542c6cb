-- A byte in a comment.
use Rattle.pgn_lexer.proofs.Words.{◌≡◌, ℕ, ◌+◌, ◌<◌, ◌≤◌, Bool, true, false, List, [], ◌∷◌, length, sym, ◌∙◌, arith, WordTooLong, CommentClass, continues_word, Token, word, comment_class, gives, stops, word_at, between, in_word, begins_brace, begins_line, after_brace, after_line, onto, tokens_from, PartialToken, CommentEnd, begin, begins_in_comment, rules}
use Rattle.pgn_lexer.proofs.stepping.StepGives.{Gives, front_by}

abbrev is_word_class : CommentClass → Bool
is_word_class CommentClass.WordByte = true
is_word_class _ = false

pub word_class : (b : ℕ) → continues_word b ≡ is_word_class (comment_class b)
word_class b = grind arith

pub word_fits : (at : ℕ) (run : List ℕ) → length run ≤ 79 → word_at at run ≡ gives (word run)
word_fits at run fits = grind arith

pub word_long : (at : ℕ) (run : List ℕ) → 79 < length run → word_at at run ≡ stops at WordTooLong
word_long at run long = grind arith

-- the tokens from a byte of a class, where a word goes on, or not
abbrev comment_tokens : CommentEnd → ℕ → Bool → ℕ → List ℕ → CommentClass → List Token
comment_tokens CommentEnd.Brace place goes b s c = onto place (begins_brace place goes c b s) (tokens_from (place + 1) (after_brace c) s)
comment_tokens CommentEnd.LineEnd place goes b s c = onto place (begins_line place goes c b s) (tokens_from (place + 1) (after_line c) s)

-- the text may end in a word as between words
pub closes_alike : (close : CommentEnd) (place : ℕ) → tokens_from place (in_word close) [] ≡ tokens_from place (between close) []
closes_alike close place = grind arith

-- they come in a word, and between the words
module _ (close : CommentEnd) (place b : ℕ) (s : List ℕ) where
  word_tokens : tokens_from place (in_word close) (b ∷ s) ≡ comment_tokens close place true b s (comment_class b)
  word_tokens = grind arith

  between_tokens : tokens_from place (between close) (b ∷ s) ≡ comment_tokens close place false b s (comment_class b)
  between_tokens = grind arith

module _ (close : CommentEnd) (c : CommentClass) (place b : ℕ) where
  comment_class_gives : (h : PartialToken) (ended : List Token) (waits : ℕ) → length h.text ≤ 255
      → Gives (front_by place b ended waits (λ s. comment_tokens close place false b s c)) (begin place h b (begins_in_comment close c))
  comment_class_gives h ended waits h1 = grind arith

  -- where no word goes on, it is the same as where none was
  same_tokens : (s : List ℕ) → is_word_class c ≡ false → comment_tokens close place true b s c ≡ comment_tokens close place false b s c
  same_tokens s h1 = grind arith

pub word_ends : (close : CommentEnd) (place b : ℕ) (s : List ℕ) → is_word_class (comment_class b) ≡ false
    → tokens_from place (in_word close) (b ∷ s) ≡ tokens_from place (between close) (b ∷ s)
word_ends close place b s e = word_tokens close place b s ∙ same_tokens close _ place b s e ∙ sym (between_tokens close place b s)

pub comment_gives : (close : CommentEnd) (place b : ℕ) (h : PartialToken) (ended : List Token) (waits : ℕ) → length h.text ≤ 255
    → Gives (front_by place b ended waits (λ s. tokens_from place (between close) (b ∷ s))) (begin place h b (begins_in_comment close (comment_class b)))
comment_gives close place b h ended waits fits = search (rules, comment_class_gives)

pub word_goes : (close : CommentEnd) (place b : ℕ) (s : List ℕ) → comment_class b ≡ CommentClass.WordByte
    → tokens_from place (in_word close) (b ∷ s) ≡ tokens_from (place + 1) (in_word close) s
word_goes close place b s e = grind arith
