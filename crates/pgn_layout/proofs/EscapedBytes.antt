-- Escapes of a value, byte after byte.
use Rattle.pgn_layout.proofs.Words.{common_steps, ◌≡◌, ℕ, ◌+◌, ◌<◌, ◌≤◌, Bool, if◌then◌else◌, List, [], ◌∷◌, ◌++◌, length, take, drop, get_or, ap, sym, ◌∙◌, add-one, append_assoc, append-nil, length-append, arith, refl, take-suc, take-append-drop, needs_escape, escape_of, escaped}

escaped-append : (xs ys : List ℕ) → escaped (xs ++ ys) ≡ escaped xs ++ escaped ys
escaped-append [] ys = refl
escaped-append (x ∷ xs) ys = grind (arith, common_steps, append_assoc, escaped-append xs)

-- one byte more
escaped-take : (value : List ℕ) (i : ℕ) → i < length value
    → escaped (take (i + 1) value) ≡ escaped (take i value) ++ escape_of (get_or value i 0)
escaped-take value i h = grind (arith, common_steps, add-one, take-suc, escaped-append, append-nil)

-- a line that ends with the escapes of the first bytes, and those of one byte more
pub line_grows : (front value line : List ℕ) (i : ℕ) → i < length value → line ≡ front ++ escaped (take i value)
    → line ++ escape_of (get_or value i 0) ≡ front ++ escaped (take (i + 1) value)
line_grows front value line i h e = grind (arith, common_steps, append_assoc, escaped-take)

-- the lengths, byte after byte
pub length_escaped-take : (value : List ℕ) (i : ℕ) → i < length value
    → length (escaped (take (i + 1) value)) ≡ length (escaped (take i value)) + length (escape_of (get_or value i 0))
length_escaped-take value i h = grind (arith, common_steps, escaped-take, length-append)

-- the first bytes have no longer text than all
pub length_escaped-front : (value : List ℕ) (i : ℕ) → length (escaped (take i value)) ≤ length (escaped value)
length_escaped-front value i =
    omega (arith, ap length (ap escaped (sym (take-append-drop i value)) ∙ escaped-append (take i value) (drop i value)), length-append {A = ℕ})

-- that byte's text is part of all
pub line_fits : (front value line : List ℕ) (i : ℕ) → i < length value → line ≡ front ++ escaped (take i value)
    → length line + length (escape_of (get_or value i 0)) ≤ length front + length (escaped value)
line_fits front value line i h e = grind (arith, common_steps, length-append, length_escaped-front, length_escaped-take)

-- no byte has a text of more than two
two_at_most : (e : Bool) (b : ℕ) → length (if e then 92 ∷ b ∷ [] else b ∷ []) ≤ 2
two_at_most e b = grind (arith, common_steps)

-- so escapes make a value at most twice as long
pub length_escaped-le : (value : List ℕ) → length (escaped value) ≤ length value + length value
length_escaped-le [] = omega arith
length_escaped-le (b ∷ bs) =
    let rest = length_escaped-le bs in
    omega (arith, two_at_most (needs_escape b) b, length-append (escape_of b) (escaped bs))
