-- A byte order mark that is looked for at a place of a line is found if it is there.
use Rattle.pgn_sections.proofs.Words.{and-true, and-false, ◌≡◌, ℕ, ◌+◌, ◌-◌, ◌<◌, ◌≤◌, Bool, true, false, List, [], ◌∷◌, drop, refl, sym, ◌∙◌, ap, arith, common_steps, ◌&&◌, ◌==◌, nat_lt, suc, if◌then◌else◌, has_mark, is_whole_mark, mark_with}
use Rattle.pgn_sections.specs.declared.line.MarkSearch.{MarkSearch}
use Rattle.pgn_sections.specs.declared.line.MarkSearch.TheVariants.{Begin, BehindFirst, BehindSecond, Whole, Missing}

abbrev third : List ℕ → Bool
third [] = false
third (c ∷ s) = c == 191

abbrev second : List ℕ → Bool
second [] = false
second (b ∷ s) = (b == 187) && third s

-- the rest of a mark, of which this is read
abbrev has_rest : MarkSearch → List ℕ → Bool
has_rest Begin s = has_mark s
has_rest BehindFirst s = second s
has_rest BehindSecond s = third s
has_rest Whole s = true
has_rest Missing s = false

if_and : (m n : MarkSearch) (t u : Bool) (s : List ℕ) → has_rest m s ≡ u → has_rest n s ≡ false → has_rest (if t then m else n) s ≡ (t && u)
if_and m n t u s e h = grind (arith, common_steps)

first_byte : (b : ℕ) (s : List ℕ) → has_mark (b ∷ s) ≡ ((b == 239) && second s)
first_byte b s = grind (arith, common_steps, and-false)

one_byte : (m : MarkSearch) (b : ℕ) (s : List ℕ) → has_rest (mark_with m b) s ≡ has_rest m (b ∷ s)
one_byte m b s = grind (arith, common_steps, if_and, first_byte, and-true)

no_byte : (m : MarkSearch) → is_whole_mark m ≡ has_rest m []
no_byte m = grind (arith, common_steps)

-- the mark behind the bytes of a text, so many of the line before it
abbrev pub mark_over : ℕ → MarkSearch → ℕ → List ℕ → MarkSearch
mark_over n m i [] = m
mark_over n m i (b ∷ s) = mark_over n (if nat_lt i n then m else mark_with m b) (i + 1) s

at_mark : (n : ℕ) (m : MarkSearch) (i : ℕ) (s : List ℕ) → n ≤ i → is_whole_mark (mark_over n m i s) ≡ has_rest m s
at_mark n m i [] h = no_byte m
at_mark n m i (b ∷ s) h =
    let behind : nat_lt i n ≡ false = grind (arith, common_steps) in
    ap (λ (t : Bool). is_whole_mark (mark_over n (if t then m else mark_with m b) (i + 1) s)) behind
    ∙ at_mark n (mark_with m b) (i + 1) s (omega arith)
    ∙ one_byte m b s

pub mark_is : (n i : ℕ) (s : List ℕ) → i ≤ n → is_whole_mark (mark_over n Begin i s) ≡ has_mark (drop (n - i) s)
mark_is n i [] h = grind (arith, common_steps)
mark_is n i (b ∷ s) h = by_place (nat_lt i n) refl (λ k. mark_is n (i + 1) s k) where
  by_place : (t : Bool) → nat_lt i n ≡ t → (i + 1 ≤ n → is_whole_mark (mark_over n Begin (i + 1) s) ≡ has_mark (drop (n - (i + 1)) s))
      → is_whole_mark (mark_over n Begin i (b ∷ s)) ≡ has_mark (drop (n - i) (b ∷ s))
  by_place true e rest =
      let before : i < n = grind (arith, common_steps) in
      let k : n - i ≡ suc (n - (i + 1)) = omega arith in
      ap (λ (t : Bool). is_whole_mark (mark_over n (if t then Begin else mark_with Begin b) (i + 1) s)) e
      ∙ rest (omega arith)
      ∙ sym (ap (λ (k : ℕ). has_mark (drop k (b ∷ s))) k)
  by_place false e rest = grind (arith, common_steps, at_mark)
