-- A missing Result that counts as the game's marker, beside one that takes the marker: the fault
-- table rejects the same tokens for the same reasons, and a game has the same export text.
-- Letters: q is the profile whose missing Result takes the marker. For the reader it counts as the
-- marker `text`. k is the kind of a token, g a game.
use Rattle.pgn_lexer.specs.Tokens as tokens
use Rattle.pgn_game.proofs.Words.{Kind, Reason, Changed, Lexical, changed_reason, Stage, Between, AfterLeftBracket, AfterName, AfterValue, AfterTags, InMovetext, Profile, Missing, counts_as, takes_the_marker, Game, Part, ◌≡◌, ℕ, ◌⊎◌, Bool, true, false, not, List, [], ◌∷◌, Option, None, Some, refl, sym, ap, ◌∙◌, true≢false, IsTrue, list_all, counting, with_missing, Row, rows, first_holding, refusal, in_name, is_score, has_other_result, marker_of, game_text, going, whole, at_stage, items_of, in_text, next, next_in, GameState, Agrees, HoldsText, is_outside_the_table, game_of, or_else, with_items, and_parts, not-true, LexReason, rules}
use Rattle.pgn_game.proofs.MarkerTexts.{score_marker, marker_no_name}
use Rattle.pgn_game.proofs.refusals.RefusalsByStage.{name_refusal, test_failed}
use Rattle.pgn_game.proofs.refusals.RefusalsInMovetext.{marker_whole, other_if, score_of}

-- One row of the table depends on a missing Result, and only at a marker.
other_alike : (text : List ℕ) (part : Part) (k : Kind) → (marker_of k ≡ None) ⊎ (marker_of k ≡ Some text)
    → has_other_result (counts_as text) part k ≡ has_other_result takes_the_marker part k
other_alike text part k h1 = search (rules, other_if)

pub table_alike : (q : Profile) (a b : Missing) (part : Part) (k : Kind) → has_other_result a part k ≡ has_other_result b part k
    → refusal (with_missing q a) part k ≡ refusal (with_missing q b) part k
unfolding refusal
table_alike q a b part k same = search rules

pub refusal_counting : (q : Profile) (text : List ℕ) (part : Part) (k : Kind) → q.missing_result ≡ takes_the_marker
    → (marker_of k ≡ None) ⊎ (marker_of k ≡ Some text) → refusal (counting q text) part k ≡ refusal q part k
refusal_counting q text part k takes known =
    table_alike q (counts_as text) takes_the_marker part k (other_alike text part k known)
    ∙ ap (λ (missing : Missing). refusal (with_missing q missing) part k) (sym takes)

-- A marker is rejected in a pair, and finishes the game elsewhere.
-- a score has a byte that no name has
pub no_name : (s : List ℕ) → is_score s ≡ true → list_all in_name s ≡ false
no_name s is = let m = score_marker s is in ap (list_all in_name) m.1 ∙ marker_no_name m.0

star_leads : (q : Profile) (stage : Stage) (part : Part) → refusal q (at_stage stage part) tokens.asterisk ≡ None
    → next (at_stage stage part) tokens.asterisk ≡ in_text part tokens.asterisk
unfolding refusal
star_leads q stage part free = search rules

score_leads : (q : Profile) (stage : Stage) (part : Part) (s : List ℕ)
    → is_score s ≡ true → refusal q (at_stage stage part) (tokens.symbol s) ≡ None
    → next (at_stage stage part) (tokens.symbol s) ≡ in_text part (tokens.symbol s)
unfolding refusal
score_leads q stage part s is free = search (rules, test_failed, name_refusal, true≢false, no_name)

pub marker_finishes : (q : Profile) (part : Part) (k : Kind) (marker : List ℕ) → marker_of k ≡ Some marker → refusal q part k ≡ None
    → next part k ≡ whole (record { pairs = part.pairs; items = part.items; marker = marker })
marker_finishes q part tokens.asterisk marker is free = star_leads q part.stage part free ∙ marker_whole part tokens.asterisk marker is
marker_finishes q part (tokens.symbol s) marker is free =
    score_leads q part.stage part s (score_of s marker (is_score s) refl is).0 free ∙ marker_whole part (tokens.symbol s) marker is
marker_finishes q part _ marker is free = absurd (cc)

-- Any other token goes on.
text_goes : (part : Part) (k : Kind) → marker_of k ≡ None → (to : Part) × (in_text part k ≡ going to)
text_goes part k none = (
  with_items part (items_of part k),
  ap (λ (o : Option (List ℕ)). elim o [ Some marker ↦ whole (game_of part marker) | None ↦ going (with_items part (items_of part k)) ]) none,
)

goes_at : (stage : Stage) (part : Part) (k : Kind) → marker_of k ≡ None → (to : Part) × (next_in stage part k ≡ going to)
goes_at Between part tokens.left_bracket none = (_, refl)
goes_at Between part tokens.comment_open none = (_, refl)
goes_at Between part (tokens.word s) none = (_, refl)
goes_at Between part tokens.comment_close none = (_, refl)
goes_at Between part tokens.end none = (_, refl)
goes_at Between part k none = text_goes part k none
goes_at AfterTags part tokens.left_bracket none = (_, refl)
goes_at AfterTags part k none = text_goes part k none
goes_at InMovetext part k none = text_goes part k none
goes_at AfterLeftBracket part (tokens.symbol name) none = (_, refl)
goes_at AfterName part (tokens.str value) none = (_, refl)
goes_at AfterValue part tokens.right_bracket none = (_, refl)
goes_at _ part _ none = (_, refl)

pub no_marker_goes : (part : Part) (k : Kind) → marker_of k ≡ None → (to : Part) × (next part k ≡ going to)
no_marker_goes part k none = goes_at part.stage part k none

-- The reader agrees with a part in any profile of its mode.
module _ (q : Profile) (r : GameState) (part : Part) where
  text_under : (stage : Stage) → q.mode ≡ r.profile.mode → HoldsText stage r part → HoldsText stage (record r { profile = q }) part
  text_under stage same h = search rules

  pub agrees_under : q.mode ≡ r.profile.mode → Agrees r part → Agrees (record r { profile = q }) part
  agrees_under same agrees = record { stage = agrees.stage; pairs = agrees.pairs; text = text_under r.stage same agrees.text }

-- The reasons of the table.
abbrev is_inside : Row → Bool
is_inside r = not (is_outside_the_table r.reason)

inside_or : (test : Bool) (first reason : Reason) (rest : Option Reason) → is_outside_the_table first ≡ false
    → (rest ≡ Some reason → is_outside_the_table reason ≡ false)
    → or_else test first rest ≡ Some reason → is_outside_the_table reason ≡ false
inside_or test first reason rest inside more e = search rules

first_inside : (rs : List Row) (reason : Reason) → IsTrue (list_all is_inside rs)
    → first_holding rs ≡ Some reason → is_outside_the_table reason ≡ false
first_inside [] reason all e = absurd (cc)
first_inside (r ∷ rs) reason all e =
    let both = and_parts (is_inside r) (list_all is_inside rs) all in
    inside_or r.holds r.reason reason (first_holding rs) (not-true (is_outside_the_table r.reason) both.0) (first_inside rs reason both.1) e

lexical_inside : (r : LexReason) → is_outside_the_table (Lexical r) ≡ false
lexical_inside r = search rules

pub refusals_are_inside : (q : Profile) (part : Part) (k : Kind) (reason : Reason)
    → refusal q part k ≡ Some reason → is_outside_the_table reason ≡ false
unfolding refusal
refusals_are_inside q part (tokens.refused r) reason is = search (rules, lexical_inside)
refusals_are_inside q part k reason is = first_inside (rows q part k) reason refl is

-- and such a reason shows a change
pub changes : (reason : Reason) → is_outside_the_table reason ≡ false → changed_reason reason ≡ Changed
changes reason h = search rules

-- a game has the same export text
pub same_game_text : (q : Profile) (g : Game) → q.missing_result ≡ takes_the_marker → game_text (counting q g.marker) g ≡ game_text q g
same_game_text q g takes = ap (λ (missing : Missing). game_text (with_missing q missing) g) (sym takes)
