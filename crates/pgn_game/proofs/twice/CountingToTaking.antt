-- Reading with a missing Result that counts as a text, and with one that takes the marker.
-- Letters: q is the profile whose missing Result takes the marker, b the progress, t a token, ts
-- are tokens.
use Rattle.pgn_lexer.specs.Tokens as tokens
use Rattle.pgn_game.proofs.Words.{Kind, Token, Reason, ResultDiffers, Profile, counts_as, takes_the_marker, value_of, Game, Part, ◌≡◌, ◌⊎◌, inl, inr, ℕ, ◌+◌, Bool, true, false, ◌&&◌, not, ◌==◌, List, [], ◌∷◌, ◌++◌, length, take, drop, codes, Option, None, Some, IsTrue, refl, sym, ap, ◌∙◌, length-append, true≢false, arith, list_all, bytes_eq-Decides, Fault, Marker, marker_text, counting, with_missing, depth, Row, row, rows, first_holding, refusal, is_outside_tag_pairs, has_other_result, levels_of_part, marker_of, IsResult, Next, going, whole, next, Progress, progress_with, progress_after, no_progress, read_from, read, or_else, and_parts, not-true, game_text, is_about_result, rejects_marker, IsReadAlike, MissingResults, common_steps, rules}
use Rattle.pgn_game.specs.export.Text.{text_of}
use Rattle.pgn_game.proofs.refusals.RefusalsInMovetext.{other_if}
use Rattle.pgn_game.proofs.exporting.GameTextToGame.{exported_result}
use Rattle.pgn_game.proofs.exporting.GameToResult.{one_of_four, result_of}
use Rattle.pgn_game.proofs.stepping.OneMoreToken.{after_test, by_token, read_from-test, goes_on, text_of-snoc}
use Rattle.pgn_game.proofs.twice.MarkerCounts.{marker_finishes, no_marker_goes, refusal_counting, same_game_text, table_alike}
use Rattle.pgn_game.proofs.twice.TakingToCounting.{reads_as_one_marker}

-- One row of the table.

-- the reason is that a marker is not the Result
abbrev pub by_result : Option Reason → Bool
by_result o = elim o [ Some reason ↦ is_about_result reason | None ↦ false ]

unless_first : (b : Bool) (reason : Reason) (o with_row : Option Reason)
    → by_result (or_else b reason with_row) ≡ false → (by_result with_row ≡ false → o ≡ with_row)
    → or_else b reason o ≡ or_else b reason with_row
unless_first b reason o with_row plain further = search rules

-- where the row is not the one that holds first, it may as well not hold
without_row : (rs : List Row) (x : Bool) (rest : List Row) → by_result (first_holding (rs ++ row ResultDiffers x ∷ rest)) ≡ false
    → first_holding (rs ++ row ResultDiffers false ∷ rest) ≡ first_holding (rs ++ row ResultDiffers x ∷ rest)
without_row [] true rest plain = absurd (true≢false plain)
without_row [] false rest plain = refl
without_row (r ∷ rs) x rest plain = search (rules, unless_first, (without_row rs x rest))

and_false : (a b : Bool) → (a && false && b) ≡ false
and_false a b = search rules

table_without : (q : Profile) (text : List ℕ) (part : Part) (k : Kind) → has_other_result takes_the_marker part k ≡ false
    → by_result (refusal (counting q text) part k) ≡ false
    → refusal (with_missing q takes_the_marker) part k ≡ refusal (counting q text) part k
unfolding refusal
table_without q text part (tokens.refused r) none plain = refl
table_without q text part k none plain =
    let outer = depth (levels_of_part part) == 0 in
    ap (λ (other : Bool).
    first_holding (take 21 (rows q part k) ++ row ResultDiffers (is_outside_tag_pairs part && other && outer) ∷ drop 22 (rows q part k))) none
    ∙ ap (λ (x : Bool). first_holding (take 21 (rows q part k) ++ row ResultDiffers x ∷ drop 22 (rows q part k)))
    (and_false (is_outside_tag_pairs part) outer) ∙ without_row (take 21 (rows q part k))
    (is_outside_tag_pairs part && has_other_result (counts_as text) part k && outer) (drop 22 (rows q part k)) plain

-- A marker that takes itself for a missing Result differs from a given one alone.
other_of : (text : List ℕ) (part : Part) (k : Kind) (o : Option (List ℕ)) (v : Option (List ℕ))
    → marker_of k ≡ o → value_of part.pairs (codes "Result") ≡ v
    → (has_other_result (counts_as text) part k ≡ has_other_result takes_the_marker part k)
    ⊎ (has_other_result takes_the_marker part k ≡ false)
other_of text part k o v is given = search (rules, other_if, bytes_eq-Decides)

pub refusal_taking : (q : Profile) (text : List ℕ) (part : Part) (k : Kind)
    → q.missing_result ≡ takes_the_marker → by_result (refusal (counting q text) part k) ≡ false
    → refusal q part k ≡ refusal (counting q text) part k
refusal_taking q text part k takes plain = search (rules, other_of, table_alike, table_without)

-- A game that is finished has the same text.
game_alike : (q : Profile) (text : List ℕ) (g : Game) → q.missing_result ≡ takes_the_marker
    → IsResult (counts_as text) (value_of g.pairs (codes "Result")) g.marker → game_text q g ≡ game_text (counting q text) g
game_alike q text g takes is = search (rules, same_game_text, exported_result)

finished_alike : (q : Profile) (text : List ℕ) (part : Part) (k : Kind) (g : Game)
    → q.missing_result ≡ takes_the_marker → refusal (counting q text) part k ≡ None
    → next part k ≡ whole g → game_text q g ≡ game_text (counting q text) g
finished_alike q text part k g takes free is = search (rules, no_marker_goes, marker_finishes, game_alike, result_of)

-- so have all games
abbrev AreAlike : Profile → List ℕ → List Game → Type 0
AreAlike q text games = text_of q games ≡ text_of (counting q text) games

module _ (q : Profile) (text : List ℕ) where
  one_more : (games : List Game) (to : Next) → AreAlike q text games → ((g : Game) → to ≡ whole g → game_text q g ≡ game_text (counting q text) g)
      → AreAlike q text (progress_with games to).games
  one_more games to before same = search (rules, text_of-snoc)

  all_alike : (b : Progress) (ts : List Token) → q.missing_result ≡ takes_the_marker → AreAlike q text b.games
      → AreAlike q text (read_from (counting q text) b ts).progress.games
  all_alike b [] takes before = before
  all_alike b (t ∷ ts) takes before =
      by_token (counting q text) b t ts (λ r. AreAlike q text r.progress.games) (λ reason is. before)
      (λ is. all_alike (progress_after b t) ts takes
      (one_more b.games (next b.part t.kind) before (λ g leads. finished_alike q text b.part t.kind g takes is leads)))

  -- Reading.

  -- a token that is rejected for another reason, and one that is not rejected
  reads_alike : (b : Progress) (ts : List Token) → q.missing_result ≡ takes_the_marker
      → rejects_marker (read_from (counting q text) b ts).fault ≡ false → read_from q b ts ≡ read_from (counting q text) b ts
  reads_alike b [] takes plain = refl
  reads_alike b (t ∷ ts) takes plain =
      by_token (counting q text) b t ts (λ r. rejects_marker r.fault ≡ false → read_from q b (t ∷ ts) ≡ r)
      (λ reason is other. read_from-test q b t ts
      ∙ ap (after_test q b t ts) (refusal_taking q text b.part t.kind takes (ap by_result is ∙ other) ∙ is))
      (λ is other. goes_on q b t ts (refusal_taking q text b.part t.kind takes (ap by_result is) ∙ is)
      ∙ reads_alike (progress_after b t) ts takes other) plain

  is_read_alike : (ts : List Token) → q.missing_result ≡ takes_the_marker → read q ts ≡ read (counting q text) ts → IsReadAlike q text ts
  is_read_alike ts takes same = grind (arith, common_steps, all_alike)

-- The marker that is rejected.

-- no game is taken back
length_with : (games : List Game) (to : Next) → (n : ℕ) × (length (progress_with games to).games ≡ length games + n)
length_with games (going part) = (0, omega arith)
length_with games (whole g) = (1, length-append games (g ∷ []))

none_lost : (p : Profile) (b : Progress) (ts : List Token) → (n : ℕ) × (length (read_from p b ts).progress.games ≡ length b.games + n)
none_lost p b [] = (0, omega arith)
none_lost p b (t ∷ ts) =
    by_token p b t ts (λ r. (n : ℕ) × (length r.progress.games ≡ length b.games + n)) (λ reason is. (0, omega arith))
    (λ is.
    let first = length_with b.games (next b.part t.kind) in
    let others = none_lost p (progress_after b t) ts in
    (first.0 + others.0, omega (arith, first.1, others.1)))

-- a game that a token finishes is there at the end
pub game_stays : (p : Profile) (b : Progress) (t : Token) (ts : List Token) (g : Game) → next b.part t.kind ≡ whole g
    → length (read_from p (progress_after b t) ts).progress.games ≡ length b.games → ⊥
game_stays p b t ts g is same =
    let one : length (progress_after b t).games ≡ length b.games + 1 = search (rules, length-append) in
    let others = none_lost p (progress_after b t) ts in
    absurd (omega (arith, one, others.1, same))

-- only a marker is rejected for the Result
abbrev is_harmless : Row → Bool
is_harmless r = not (is_about_result r.reason && r.holds)

by_row : (b : Bool) (reason : Reason) (rest : Option Reason) → (is_about_result reason && b) ≡ false
    → by_result rest ≡ false → by_result (or_else b reason rest) ≡ false
by_row b reason rest plain further = search (rules, true≢false)

no_result : (rs : List Row) → IsTrue (list_all is_harmless rs) → by_result (first_holding rs) ≡ false
no_result [] all = refl
no_result (r ∷ rs) all =
    let both = and_parts (is_harmless r) (list_all is_harmless rs) all in
    by_row r.holds r.reason (first_holding rs) (not-true (is_about_result r.reason && r.holds) both.0) (no_result rs both.1)

not_for_result : (p : Profile) (part : Part) (k : Kind) → marker_of k ≡ None → by_result (refusal p part k) ≡ false
unfolding refusal
not_for_result p part (tokens.refused r) none = refl
not_for_result p part k none = search (rules, other_if, and_false, no_result)

marker_rejected : (q : Profile) (text : List ℕ) (part : Part) (k : Kind)
    → q.missing_result ≡ takes_the_marker → refusal (counting q text) part k ≡ Some ResultDiffers
    → (m : Marker) × (marker_of k ≡ Some (marker_text m))
marker_rejected q text part k takes is = by_marker (marker_of k) refl
  where
    by_marker : (o : Option (List ℕ)) → marker_of k ≡ o → (m : Marker) × (marker_of k ≡ Some (marker_text m))
    by_marker (Some marker) some = one_of_four k marker some
    by_marker None none = absurd (true≢false (sym (ap by_result is) ∙ not_for_result (counting q text) part k none))

-- what `IsReadByItsMarker` says, from some progress on
pub record FromThere (q : Profile) (b : Progress) (ts : List Token) (at : ℕ) : Type 0 where
  pub front : List Token
  pub token : Token
  pub rest : List Token
  pub cut : ts ≡ front ++ token ∷ rest
  pub place : token.at ≡ at
  pub marker : Marker
  pub is_marker : marker_of token.kind ≡ Some (marker_text marker)
  pub up_to_it : read_from q b (front ++ token ∷ []) ≡ read_from (counting q (marker_text marker)) b (front ++ token ∷ [])
  pub rejected : length (read_from (counting q (marker_text marker)) b ts).progress.games ≡ length b.games
      → read_from q b ts ≡ read_from (counting q (marker_text marker)) b ts

-- at the marker itself
module _ (q : Profile) (b : Progress) (t : Token) (m : Marker)
    (takes : q.missing_result ≡ takes_the_marker) (is : marker_of t.kind ≡ Some (marker_text m)) where
  same_row : refusal (counting q (marker_text m)) b.part t.kind ≡ refusal q b.part t.kind
  same_row = refusal_counting q (marker_text m) b.part t.kind takes (inr is)

  pub up_to_marker : read_from q b (t ∷ []) ≡ read_from (counting q (marker_text m)) b (t ∷ [])
  up_to_marker = grind (arith, common_steps, by_token, read_from-test, same_row, goes_on)

  pub marker_refused : (ts : List Token) → length (read_from (counting q (marker_text m)) b (t ∷ ts)).progress.games ≡ length b.games
      → read_from q b (t ∷ ts) ≡ read_from (counting q (marker_text m)) b (t ∷ ts)
  marker_refused ts none = search (rules, by_token, read_from-test, same_row, game_stays, marker_finishes, goes_on)

-- at a token before it, which is no marker
module _ (q : Profile) (b : Progress) (t : Token) (takes : q.missing_result ≡ takes_the_marker)
    (none : marker_of t.kind ≡ None) (free : refusal q b.part t.kind ≡ None) where
  passes_counting : (m : Marker) (us : List Token)
      → read_from (counting q (marker_text m)) b (t ∷ us) ≡ read_from (counting q (marker_text m)) (progress_after b t) us
  passes_counting m us = goes_on (counting q (marker_text m)) b t us (refusal_counting q (marker_text m) b.part t.kind takes (inl none) ∙ free)

  pub same_count : length (progress_after b t).games ≡ length b.games
  same_count = let to = no_marker_goes b.part t.kind none in ap (λ (to : Next). length (progress_with b.games to).games) to.1

  pub one_before : (ts : List Token) (at : ℕ) → FromThere q (progress_after b t) ts at → FromThere q b (t ∷ ts) at
  one_before ts at h = record {
    front = t ∷ h.front;
    token = h.token;
    rest = h.rest;
    cut = ap (λ (us : List Token). t ∷ us) h.cut;
    place = h.place;
    marker = h.marker;
    is_marker = h.is_marker;
    up_to_it = goes_on q b t (h.front ++ h.token ∷ []) free ∙ h.up_to_it ∙ sym (passes_counting h.marker (h.front ++ h.token ∷ []));
    rejected = search (rules, goes_on, passes_counting, same_count);
  }

-- where no game is finished, a token that passes is no marker
not_a_marker : (p : Profile) (b : Progress) (t : Token) (ts : List Token) (o : Option (List ℕ))
    → marker_of t.kind ≡ o → refusal p b.part t.kind ≡ None
    → length (read_from p (progress_after b t) ts).progress.games ≡ length b.games → marker_of t.kind ≡ None
not_a_marker p b t ts o is row there = search (rules, game_stays, marker_finishes)

from_there : (q : Profile) (text : List ℕ) (b : Progress) (ts : List Token) (at : ℕ) → q.missing_result ≡ takes_the_marker
    → (read_from (counting q text) b ts).fault ≡ Some (record { at = at; reason = ResultDiffers })
    → length (read_from (counting q text) b ts).progress.games ≡ length b.games → FromThere q b ts at
from_there q text b [] at takes fault same = absurd (cc)
from_there q text b (t ∷ ts) at takes fault same =
    by_token (counting q text) b t ts
    (λ r. r.fault ≡ Some (record { at = at; reason = ResultDiffers })
    → length r.progress.games ≡ length b.games → FromThere q b (t ∷ ts) at)
    (λ reason row f there.
    let place : t.at ≡ at = ap (λ (o : Option Fault). elim o [ None ↦ t.at | Some g ↦ g.at ]) f in
    let why : reason ≡ ResultDiffers = ap (λ (o : Option Fault). elim o [ None ↦ reason | Some g ↦ g.reason ]) f in
    let m = marker_rejected q text b.part t.kind takes (row ∙ ap Some why) in
    record {
      front = [];
      token = t;
      rest = ts;
      cut = refl;
      place = place;
      marker = m.0;
      is_marker = m.1;
      up_to_it = up_to_marker q b t m.0 takes m.1;
      rejected = marker_refused q b t m.0 takes m.1 ts;
    })
    (λ row f there.
    let free : refusal q b.part t.kind ≡ None = refusal_taking q text b.part t.kind takes (ap by_result row) ∙ row in
    let none = not_a_marker (counting q text) b t ts (marker_of t.kind) refl row there in
    one_before q b t takes none free ts at (from_there q text (progress_after b t) ts at takes f (there ∙ sym (same_count q b t takes none free))))
    fault same

pub missing_results : MissingResults
missing_results = record {
  alike = λ q text ts takes plain. is_read_alike q text ts takes (reads_alike q text no_progress ts takes plain);
  by_its_marker = λ q text ts at takes fault none.
      let h = from_there q text no_progress ts at takes fault (ap (length {A = Game}) none) in search (rules, is_read_alike);
  if_all_end_with_it = search (rules, is_read_alike, reads_as_one_marker);
}
