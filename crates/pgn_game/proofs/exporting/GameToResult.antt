-- The Result of a game that a marker ends, and the four markers.
use Rattle.pgn_game.proofs.Words.{◌≡◌, ℕ, Bool, false, List, [], ◌∷◌, ◌++◌, take, drop, codes, Option, None, Some, sym, ap, ◌∙◌, arith, Kind, Reason, ResultDiffers, MarkerInVariation, Profile, value_of, Part, Marker, marker_text, depth, Row, row, rows, first_holding, refusal, has_other_result, levels_of_part, marker_of, IsResult, or_else, rules}
use Rattle.pgn_lexer.specs.Tokens as tokens
use Rattle.pgn_game.proofs.refusals.RefusalsInMovetext.{other_if, score_of}
use Rattle.pgn_game.proofs.reading.MovetextTokens.{result_is}
use Rattle.pgn_game.proofs.MarkerTexts.{score_marker}

none_of : (b : Bool) (reason : Reason) {rest : Option Reason} → or_else b reason rest ≡ None → (b ≡ false) × (rest ≡ None)
none_of b reason e = search rules

-- if no row holds, this one does not
pub row_fails : (rs : List Row) (r : Row) (rest : List Row) → first_holding (rs ++ r ∷ rest) ≡ None → r.holds ≡ false
row_fails [] r rest e = (none_of _ _ e).0
row_fails (x ∷ rs) r rest e = row_fails rs r rest (none_of _ _ e).1

-- A marker that finishes a game is at depth 0, and is its Result.
not_other : (p : Profile) (part : Part) (k : Kind) {marker : List ℕ} → marker_of k ≡ Some marker
    → refusal p part k ≡ None → has_other_result p.missing_result part k ≡ false
unfolding refusal
not_other p part (tokens.refused r) is free = absurd (cc)
not_other p part k is free =
    let deep = depth (levels_of_part part) in
    let inside = row_fails (take 20 (rows p part k)) (row MarkerInVariation _) (drop 21 (rows p part k)) free in
    let differs = row_fails (take 21 (rows p part k)) (row ResultDiffers _) (drop 22 (rows p part k)) free in
    search rules

pub result_of : (p : Profile) (part : Part) (k : Kind) (marker : List ℕ) → marker_of k ≡ Some marker → refusal p part k ≡ None
    → IsResult p.missing_result (value_of part.pairs (codes "Result")) marker
result_of p part k marker is free = result_is _ _ marker (sym (ap (other_if p.missing_result part.pairs) is) ∙ not_other p part k is free)

pub one_of_four : (k : Kind) (text : List ℕ) → marker_of k ≡ Some text → (m : Marker) × (marker_of k ≡ Some (marker_text m))
one_of_four k text is = grind (arith, score_of, score_marker)
