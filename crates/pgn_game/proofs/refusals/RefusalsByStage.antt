-- Which tokens are rejected at a stage, row by row, and where the others lead.
use Rattle.pgn_game.proofs.Words.{◌≡◌, ℕ, ◌+◌, Bool, true, false, ◌&&◌, ◌||◌, not, List, [], length, nat_lt, nat_le, Option, None, Some, refl, sym, ◌∙◌, ◌==◌, codes, bytes_eq, is_some, Bor, IsTrue, IsFalse, Result, list_all, and_right, false≢true, escaped, left_bracket, right_bracket, symbol, str, kind_of, TokenKind, Played, SanFault, Kind, Reason, ExpectedName, BadTagName, DuplicateTag, TooManyTags, ExpectedValue, BadResult, BadFen, TagLineTooLong, ExpectedBracket, SetUpWithoutFen, ReducedFen, NotAMove, IllegalMove, AmbiguousMove, MoveLimit, MarkerInVariation, ResultDiffers, UnexpectedEnd, Stage, Between, AfterLeftBracket, AfterName, AfterValue, AfterTags, InMovetext, Profile, Pair, has_pair, insert_pair, Part, no_part, refusal, is_comment, is_end, in_name, is_result, is_no_form, is_no_move, is_many_moves, is_one_move, fen_field, fen_field_of, lacks_fen, is_reduced, going, next, at_stage, in_text, or_else, text_refusal, arith, rules}
use Rattle.pgn_lexer.specs.Tokens as tokens
use Rattle.pgn_lexer.specs.declared.token.TokenKind.TheVariants as token_kinds

-- what holds of a part at a stage holds of each that is there
at_the_stage : (P : Part → Type 0) (part : Part) {stage : Stage} → part.stage ≡ stage → P (at_stage stage part) → P part
at_the_stage P part e h = rw e h

module _ (test : Bool) (reason : Reason) (rest : Option Reason) where
  pub hit : test ≡ true → or_else test reason rest ≡ Some reason
  hit e = cc

  pub pass : test ≡ false → or_else test reason rest ≡ rest
  pass e = cc

pub test_failed : (test : Bool) (reason : Reason) (rest : Option Reason) → or_else test reason rest ≡ None → test ≡ false
test_failed test reason rest e = search rules

pub rest_passed : (test : Bool) (reason : Reason) {rest : Option Reason} → or_else test reason rest ≡ None → rest ≡ None
rest_passed test reason e = search rules

-- Comments in a pair and before a game.
abbrev pub drops_comments : Stage → Bool
drops_comments AfterTags = false
drops_comments InMovetext = false
drops_comments _ = true

no_value_rows : (name : List ℕ)
    → or_else (bytes_eq name (codes "Result") && false) BadResult (or_else (bytes_eq name (codes "FEN") && false) (BadFen 0) None) ≡ None
no_value_rows name = pass _ _ _ (and_right _ false refl) ∙ pass _ _ None (and_right _ false refl)

reduced_row : (p : Profile) → or_else (is_reduced p.mode && false) ReducedFen None ≡ None
reduced_row p = pass _ _ None (and_right _ false refl)

pub comment_free : (p : Profile) (stage : Stage) (part : Part) (k : Kind) → IsTrue (drops_comments stage)
    → IsTrue (is_comment k) → refusal p (at_stage stage part) k ≡ None
unfolding refusal
comment_free p stage part k drops is = grind (arith, false≢true, no_value_rows, reduced_row)

pub comment_stays : {stage : Stage} (part : Part) (k : Kind) → IsTrue (drops_comments stage)
    → IsTrue (is_comment k) → next (at_stage stage part) k ≡ going (at_stage stage part)
comment_stays part k drops is = grind (arith, false≢true)

pub comment_goes : (k : Kind) → IsTrue (is_comment k) → is_end k ≡ false
comment_goes k is = search (rules, false≢true)

pub comment_passes : (p : Profile) {part : Part} (k : TokenKind) {stage : Stage} → stage ≡ part.stage → IsTrue (drops_comments stage)
    → true ≡ is_comment (kind_of k) → (refusal p part (kind_of k) ≡ None) × (next part (kind_of k) ≡ going part)
comment_passes p {part} k at out is =
    let drops = rw at at out in
    (comment_free p _ part _ drops (sym is), comment_stays part _ drops (sym is))

-- Pairs.
pub expected_name : (p : Profile) (part : Part) (k : TokenKind) → part.stage ≡ AfterLeftBracket
    → false ≡ is_comment (kind_of k) → ((text : Bor (List ℕ)) → k ≡ token_kinds.Symbol text → ⊥)
    → refusal p part (kind_of k) ≡ Some ExpectedName
unfolding refusal
expected_name p part k at is other = grind (arith, false≢true, at_the_stage)

pub expected_value : (p : Profile) (part : Part) (k : TokenKind) → part.stage ≡ AfterName
    → false ≡ is_comment (kind_of k) → ((text : Bor (List ℕ)) → k ≡ token_kinds.Str text → ⊥)
    → refusal p part (kind_of k) ≡ Some ExpectedValue
unfolding refusal
expected_value p part k at is other = grind (arith, false≢true, at_the_stage)

pub expected_bracket : (p : Profile) (part : Part) (k : TokenKind) → part.stage ≡ AfterValue
    → false ≡ is_comment (kind_of k) → (k ≡ token_kinds.RightBracket → ⊥) → refusal p part (kind_of k) ≡ Some ExpectedBracket
unfolding refusal
expected_bracket p part k at is other = grind (arith, false≢true, at_the_stage)

-- what a name and a value are rejected for, each test before the next
abbrev pub name_rows : Profile → List Pair → List ℕ → Option Reason
name_rows p ps s =
    or_else (not (list_all in_name s)) BadTagName
    (or_else (has_pair ps s) DuplicateTag (or_else (nat_lt 249 (length s)) TagLineTooLong
    (or_else (is_reduced p.mode && bytes_eq s (codes "FEN")) ReducedFen None)))

pub name_refusal : (p : Profile) (part : Part) (name : List ℕ) → part.stage ≡ AfterLeftBracket
    → refusal p part (symbol name) ≡ name_rows p part.pairs name
unfolding refusal
name_refusal p part name at = at_the_stage (λ q. refusal p q (symbol name) ≡ name_rows p q.pairs name) part at refl

pub name_next : (part : Part) (name : List ℕ) → part.stage ≡ AfterLeftBracket
    → next part (symbol name) ≡ going (record { stage = AfterName; pairs = part.pairs; name = name; items = part.items })
name_next part name at = cc

abbrev pub value_rows : List ℕ → List ℕ → Option Reason
value_rows name s =
    or_else (bytes_eq name (codes "Result") && not (is_result s)) BadResult
    (or_else (bytes_eq name (codes "FEN") && is_some (fen_field s)) (BadFen (fen_field_of (tokens.str s)))
    (or_else (nat_lt 249 (length name + length (escaped s))) TagLineTooLong None))

pub value_refusal : (p : Profile) (part : Part) (value : List ℕ)
    → part.stage ≡ AfterName → refusal p part (str value) ≡ value_rows part.name value
unfolding refusal
value_refusal p part value at = at_the_stage (λ q. refusal p q (str value) ≡ value_rows q.name value) part at refl

pub value_next : (part : Part) (value : List ℕ) → part.stage ≡ AfterName → next part (str value) ≡ going
    (record { stage = AfterValue; pairs = insert_pair (record { name = part.name; value = value }) part.pairs; name = []; items = part.items })
value_next part value at = cc

pub close_refusal : (p : Profile) (part : Part) → part.stage ≡ AfterValue → refusal p part right_bracket ≡ None
unfolding refusal
close_refusal p part at = at_the_stage (λ q. refusal p q right_bracket ≡ None) part at refl

pub close_next : (part : Part) → part.stage ≡ AfterValue → next part right_bracket ≡ going (at_stage AfterTags part)
close_next part at = at_the_stage (λ q. next q right_bracket ≡ going (at_stage AfterTags q)) part at refl

pub open_refusal : (p : Profile) (part : Part) → part.stage ≡ AfterTags
    → refusal p part left_bracket ≡ or_else (nat_le p.tags (length part.pairs)) TooManyTags None
unfolding refusal
open_refusal p part at = grind (arith, at_the_stage)

pub open_next : (part : Part) → part.stage ≡ AfterTags → next part left_bracket ≡ going (at_stage AfterLeftBracket part)
open_next part at = at_the_stage (λ q. next q left_bracket ≡ going (at_stage AfterLeftBracket q)) part at refl

pub open_between : (p : Profile) (part : Part)
    → refusal p (at_stage Between part) left_bracket ≡ or_else (nat_le p.tags (length part.pairs)) TooManyTags None
unfolding refusal
open_between p part = refl

-- Movetext.

abbrev pub is_textual : Kind → Bool
is_textual tokens.left_bracket = false
is_textual tokens.end = false
is_textual (tokens.refused r) = false
is_textual _ = true

abbrev pub is_lexical : Kind → Bool
is_lexical (tokens.refused r) = true
is_lexical _ = false

-- a token that is neither a `[` nor the end may be one of movetext
pub textual : (k : TokenKind) → (k ≡ token_kinds.LeftBracket → ⊥) → (k ≡ token_kinds.End → ⊥) → IsTrue (is_textual (kind_of k))
textual k bracket over = grind arith

pub after_tags : (p : Profile) (part : Part) (k : Kind) → IsTrue (is_textual k)
    → refusal p (at_stage AfterTags part) k ≡ or_else (lacks_fen part.pairs) SetUpWithoutFen (refusal p (at_stage InMovetext part) k)
unfolding refusal
after_tags p part k is = search (rules, false≢true)

pub leads_after_tags : (part : Part) (k : Kind) → IsTrue (is_textual k) → next (at_stage AfterTags part) k ≡ next (at_stage InMovetext part) k
leads_after_tags part k is = grind (arith, false≢true)

pub between : (p : Profile) (part : Part) (k : Kind) → IsTrue (is_textual k) → IsFalse (is_comment k)
    → refusal p (at_stage Between part) k ≡ refusal p (at_stage InMovetext part) k
unfolding refusal
between p part k is bare = grind (arith, false≢true)

pub leads_between : (part : Part) (k : Kind) → IsTrue (is_textual k) → IsFalse (is_comment k)
    → next (at_stage Between part) k ≡ next (at_stage InMovetext part) k
leads_between part k is bare = grind (arith, false≢true)

-- the table and the step of movetext are those of a token in it, and of the first one
pub text_row : (p : Profile) (part : Part) (k : Kind) → is_lexical k ≡ false → refusal p (at_stage InMovetext part) k ≡ text_refusal p part k
unfolding refusal
text_row p part k plain = grind (arith, false≢true)

no_lexical : (k : TokenKind) → is_lexical (kind_of k) ≡ false
no_lexical k = search rules

pub row_in_movetext : (p : Profile) (part : Part) (k : TokenKind) → part.stage ≡ InMovetext
    → refusal p part (kind_of k) ≡ text_refusal p part (kind_of k)
row_in_movetext p part k at =
    at_the_stage (λ q. refusal p q (kind_of k) ≡ text_refusal p part (kind_of k)) part at (text_row p part _ (no_lexical k))

pub next_in_movetext : (part : Part) (k : TokenKind) → part.stage ≡ InMovetext → next part (kind_of k) ≡ in_text part (kind_of k)
next_in_movetext part k at = at_the_stage (λ q. next q (kind_of k) ≡ in_text part (kind_of k)) part at refl

pub row_after_tags : (p : Profile) (part : Part) (k : TokenKind) → part.stage ≡ AfterTags
    → IsTrue (is_textual (kind_of k)) → lacks_fen part.pairs ≡ false → refusal p part (kind_of k) ≡ text_refusal p part (kind_of k)
row_after_tags p part k at is free =
    at_the_stage (λ q. refusal p q (kind_of k) ≡ text_refusal p part (kind_of k)) part at
    (after_tags p part _ is ∙ pass _ _ _ free ∙ text_row p part _ (no_lexical k))

pub next_after_tags : (part : Part) (k : TokenKind) → part.stage ≡ AfterTags
    → IsTrue (is_textual (kind_of k)) → next part (kind_of k) ≡ in_text part (kind_of k)
next_after_tags part k at is = grind (arith, at_the_stage, leads_after_tags)

pub passes_between : (p : Profile) {part : Part} (k : TokenKind)
    → part.stage ≡ Between → (is_comment (kind_of k) || is_end (kind_of k)) ≡ true
    → (refusal p part (kind_of k) ≡ None) × (next part (kind_of k) ≡ going part)
unfolding refusal
passes_between p k at is = grind (arith, false≢true, at_the_stage)

-- A token that begins a game means what it means after pairs, of which there is none.
pub begins_alike : (p : Profile) (k : TokenKind) → is_comment (kind_of k) ≡ false → is_end (kind_of k) ≡ false
    → (refusal p (at_stage AfterTags no_part) (kind_of k) ≡ refusal p no_part (kind_of k))
    × (next (at_stage AfterTags no_part) (kind_of k) ≡ next no_part (kind_of k))
unfolding refusal
begins_alike p k comment over = grind (arith, false≢true)

pub end_after_tags : (p : Profile) (part : Part) → part.stage ≡ AfterTags → refusal p part tokens.end ≡ Some UnexpectedEnd
unfolding refusal
end_after_tags p part at = at_the_stage (λ q. refusal p q tokens.end ≡ Some UnexpectedEnd) part at refl

-- a token after the pairs of a game whose SetUp asks for a FEN
pub refuses_set_up : (p : Profile) (part : Part) (k : TokenKind) → part.stage ≡ AfterTags
    → IsTrue (is_textual (kind_of k)) → lacks_fen part.pairs ≡ true → refusal p part (kind_of k) ≡ Some SetUpWithoutFen
refuses_set_up p part k at is lacks =
    at_the_stage (λ q. refusal p q (kind_of k) ≡ Some SetUpWithoutFen) part at
    (after_tags p part _ is ∙ hit _ _ _ lacks)

-- What a symbol is rejected for, by what it is: a number, a score, what it comes to as a move,
-- whether the numbers are at their limit, the depth, and whether it differs from the Result.
abbrev pub symbol_rows : Bool → Option (Result Played SanFault) → Bool → ℕ → Bool → Bool → Option Reason
symbol_rows word o limit deep other marker =
    or_else (elim word [ true ↦ false | false ↦ is_no_form o ]) NotAMove
    (or_else (elim word [ true ↦ false | false ↦ is_no_move o ]) IllegalMove
    (or_else (elim word [ true ↦ false | false ↦ is_many_moves o ]) AmbiguousMove
    (or_else (elim word [ true ↦ false | false ↦ is_one_move o ] && limit) MoveLimit
    (or_else (marker && nat_le 1 deep) MarkerInVariation
    (or_else (other && (deep == 0)) ResultDiffers None)))))
