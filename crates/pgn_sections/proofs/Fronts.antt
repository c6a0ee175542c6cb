-- What is skipped at the front of a text, by its first byte.
use Rattle.pgn_sections.proofs.Words.{◌≡◌, ℕ, ◌+◌, Bool, true, false, List, [], ◌∷◌, None, Some, drop, take, ap, arith, cond, suc, nat_le, if◌then◌else◌, prefix_len, is_space, behind_name, behind_space, is_name_byte, name_length, common_steps}

-- one byte more
pub longer : (p : ℕ → Bool) (b : ℕ) (s : List ℕ) → p b ≡ true → prefix_len p (b ∷ s) ≡ suc (prefix_len p s)
longer p b s e = grind (arith, common_steps)

pub none : (p : ℕ → Bool) (b : ℕ) (s : List ℕ) → p b ≡ false → prefix_len p (b ∷ s) ≡ 0
none p b s e = ap (λ (t : Bool). cond t (1 + prefix_len p s) 0) e

pub drop_more : (p : ℕ → Bool) (b : ℕ) (s : List ℕ) → p b ≡ true → drop (prefix_len p (b ∷ s)) (b ∷ s) ≡ drop (prefix_len p s) s
drop_more p b s e = ap (λ (n : ℕ). drop n (b ∷ s)) (longer p b s e)

pub drop_none : (p : ℕ → Bool) (b : ℕ) (s : List ℕ) → p b ≡ false → drop (prefix_len p (b ∷ s)) (b ∷ s) ≡ b ∷ s
drop_none p b s e = ap (λ (n : ℕ). drop n (b ∷ s)) (none p b s e)

pub take_more : (p : ℕ → Bool) (b : ℕ) (s : List ℕ) → p b ≡ true → take (prefix_len p (b ∷ s)) (b ∷ s) ≡ b ∷ take (prefix_len p s) s
take_more p b s e = ap (λ (n : ℕ). take n (b ∷ s)) (longer p b s e)

pub take_none : (p : ℕ → Bool) (b : ℕ) (s : List ℕ) → p b ≡ false → take (prefix_len p (b ∷ s)) (b ∷ s) ≡ []
take_none p b s e = ap (λ (n : ℕ). take n (b ∷ s)) (none p b s e)

pub space_more : (b : ℕ) (s : List ℕ) → is_space b ≡ true → behind_space (b ∷ s) ≡ behind_space s
space_more b s e = drop_more is_space b s e

pub space_none : (b : ℕ) (s : List ℕ) → is_space b ≡ false → behind_space (b ∷ s) ≡ b ∷ s
space_none b s e = drop_none is_space b s e

-- a text that begins with the byte of a name, or with another
pub name_more : (b : ℕ) (s : List ℕ) → is_name_byte b ≡ true → behind_name (b ∷ s) ≡ Some (drop (name_length s) s)
name_more b s e = grind (arith, common_steps, longer)

pub name_none : (b : ℕ) (s : List ℕ) → is_name_byte b ≡ false → behind_name (b ∷ s) ≡ None
name_none b s e = ap (λ (n : ℕ). if nat_le 1 n then Some (drop n (b ∷ s)) else None) (none is_name_byte b s e)
