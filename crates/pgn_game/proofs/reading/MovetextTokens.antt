-- Where a token of movetext leads, and when a marker is the Result.
use Rattle.pgn_game.proofs.Words.{◌≡◌, ℕ, Bool, true, false, not, List, [], ◌∷◌, ◌++◌, Option, None, append-nil, bytes_eq, unwrap_or, IsFalse, false≢true, fold-append, not-false, bytes_eq-Decides, Kind, InMovetext, Profile, Missing, Pair, Item, levels_of, levels_after, refusal, is_score, is_number, is_end, result_for, next, going, StandsFor, IsResult, arith, rules}
use Rattle.pgn_game.proofs.MarkerTexts.{score_marker, marker_no_number}
use Rattle.pgn_game.proofs.reading.RunsToEnd.{at}
use Rattle.pgn_game.proofs.refusals.RefusalsByStage.{text_row}
use Rattle.pgn_game.proofs.refusals.RefusalsInMovetext.{number_free, number_leads}

pub levels_more : (items : List Item) (x : Item) → levels_of (items ++ x ∷ []) ≡ levels_after (levels_of items) x
levels_more items x = fold-append _ _ items _

-- Markers.
abbrev pub differs : Missing → Option (List ℕ) → List ℕ → Bool
differs missing o marker = not (bytes_eq marker (unwrap_or o (result_for missing marker)))

module _ (missing : Missing) (o : Option (List ℕ)) (marker : List ℕ) where
  pub result_is : IsFalse (differs missing o marker) → IsResult missing o marker
  result_is h = search (rules, not-false, bytes_eq-Decides)

  pub result_meets : IsResult missing o marker → IsFalse (differs missing o marker)
  result_meets h = grind (arith, bytes_eq-Decides)

pub number_no_score : (s : List ℕ) → is_number s ≡ true → is_score s ≡ false
number_no_score s is = grind (arith, false≢true, score_marker, marker_no_number)

-- A token that stands anywhere.
pub stands_free : (p : Profile) (ps : List Pair) (name : List ℕ) (items : List Item) {k : Kind} {item : List Item} → StandsFor k item
    → refusal p (at InMovetext ps name items) k ≡ None
unfolding refusal
stands_free p ps name items h6 = grind (arith, at, text_row, number_free, number_no_score)

pub stands_leads : (ps : List Pair) (name : List ℕ) (items : List Item) {k : Kind} {item : List Item} → StandsFor k item
    → next (at InMovetext ps name items) k ≡ going (at InMovetext ps name (items ++ item))
stands_leads ps name items h5 = grind (arith, at, number_leads, number_no_score)

pub stands_levels : (items : List Item) {k : Kind} {item : List Item} → StandsFor k item → levels_of (items ++ item) ≡ levels_of items
stands_levels items h3 = grind (arith, append-nil, levels_more)

pub stands_goes : {k : Kind} {item : List Item} → StandsFor k item → is_end k ≡ false
stands_goes h1 = search rules
