-- The texts of the markers: a result is one of the four, and what holds of each.
use Rattle.pgn_game.proofs.Words.{◌≡◌, ℕ, ◌+◌, ◌≤◌, Bool, true, false, ◌||◌, List, length, ap, refl, arith, codes, bytes_eq, list_all, bytes_eq-Decides, escaped, in_name, is_number, is_result, is_score, Marker, WhiteWins, Unknown, marker_text, common_steps}

-- the marker that a result is
pub result_marker : (s : List ℕ) → is_result s ≡ true → (m : Marker) × (s ≡ marker_text m)
result_marker s is = grind (arith, common_steps, bytes_eq-Decides)

pub score_marker : (s : List ℕ) → is_score s ≡ true → (m : Marker) × (s ≡ marker_text m)
score_marker s is = result_marker s (ap (λ (b : Bool). b || bytes_eq s (marker_text Unknown)) is)

-- it has a byte that no name and no number has
pub marker_no_name : (m : Marker) → list_all in_name (marker_text m) ≡ false
marker_no_name WhiteWins = refl
marker_no_name _ = refl

pub marker_no_number : (m : Marker) → is_number (marker_text m) ≡ false
marker_no_number WhiteWins = refl
marker_no_number _ = refl

-- it is short
pub marker_short : (m : Marker) → length (marker_text m) ≤ 7
marker_short WhiteWins = omega arith
marker_short _ = omega arith

pub marker_room : (m : Marker) → length (codes "Result") + length (escaped (marker_text m)) ≤ 249
marker_room WhiteWins = omega arith
marker_room _ = omega arith
