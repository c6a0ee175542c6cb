-- What the code keeps of a text has what is seen of the text.
use Rattle.pgn_sections.proofs.Words.{common_steps, ◌≡◌, ℕ, ◌||◌, List, [], ◌∷◌, None, Some, refl, arith, list_any, first_text, last_text, number_at_front, number_behind_bracket, outside_text, ends_with_marker, last_word, begun, shape_over, shape_with, text_of_shape, Shape, true, ◌==◌}

first_kept : (a : Shape) (b : ℕ) (s : List ℕ) → a.first ≡ Some b → (shape_over a s).first ≡ Some b
first_kept a b [] e = e
first_kept a b (c ∷ s) e = first_kept (shape_with a c) b s (grind (arith, common_steps))

first_is : (a : Shape) (s : List ℕ) → a.first ≡ None → (shape_over a s).first ≡ first_text s
first_is a [] e = e
first_is a (c ∷ s) e = grind (arith, common_steps, first_is (shape_with a c) s, first_kept (shape_with a c) c s)

last_is : (a : Shape) (s : List ℕ) → (shape_over a s).last ≡ last_text a.last s
last_is a [] = refl
last_is a (c ∷ s) = last_is (shape_with a c) s

bracket_is : (a : Shape) (s : List ℕ) → (shape_over a s).has_bracket ≡ (a.has_bracket || list_any (λ b. b == 93) s)
bracket_is a [] = grind (arith, common_steps)
bracket_is a (c ∷ s) = grind (arith, common_steps, bracket_is (shape_with a c) s)

number_is : (a : Shape) (s : List ℕ) → (shape_over a s).number ≡ number_at_front a.number s
number_is a [] = refl
number_is a (c ∷ s) = number_is (shape_with a c) s

number_behind_is : (a : Shape) (s : List ℕ) → (shape_over a s).number_behind_bracket ≡ number_behind_bracket a.number_behind_bracket s
number_behind_is a [] = refl
number_behind_is a (c ∷ s) = number_behind_is (shape_with a c) s

pub text_is : (s : List ℕ) → text_of_shape (shape_over begun s) (ends_with_marker (last_word [] true s)) ≡ outside_text s
text_is s = grind (arith, common_steps, bracket_is, first_is, last_is, number_behind_is, number_is)
