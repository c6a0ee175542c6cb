-- What a game has that is unusual, found in one pass.
use Rattle.pgn_c.proofs.Words.{rules, common_steps, ap, arith, Bool, drop, false, get_or, length, List, [], ◌∷◌, refl, subst, suc, sym, true, zero, ℕ, ◌+◌, ◌<◌, ◌≡◌, ◌∙◌, prefix_len, ◌||◌, if◌then◌else◌, drop-drop, drop_more, continues_symbol, is_digit, is_letter, is_space, starts_symbol, begins_unusual, belonging, is_unusual, skipped, unusual_behind, unusual_letter, unusual_number, unusual_other}
use Rattle.pgn_c.proofs.NumbersRead.{continues, starts_by, starts_by_none, white}

-- what is unusual so far, and in the bytes from a place on, is that of the text
abbrev pub Sees : List ℕ → Bool → ℕ → Type 0
Sees s u at = u || unusual_behind 0 (drop at s) ≡ is_unusual s

pub behind_so_many : (n : ℕ) (s : List ℕ) → unusual_behind n s ≡ unusual_behind 0 (drop n s)
behind_so_many zero s = refl
behind_so_many (suc n) [] = refl
behind_so_many (suc n) (b ∷ s) = behind_so_many n s

or_further : (u v w : Bool) → (u || v) || w ≡ u || (v || w)
or_further u v w = grind (arith, common_steps)

second : (x y p q r : Bool) → x ≡ false → y ≡ true → (if x then p else (if y then q else r)) ≡ q
second x y p q r e f = rw (e, f) refl

module _ (s : List ℕ) (u : Bool) (at : ℕ) (sees : Sees s u at) (less : at < length s) where
  abbrev pub b : ℕ
  b = get_or s at 0

  cell : drop at s ≡ b ∷ drop (at + 1) s
  cell = drop_more s at 0 less

  abbrev rest : List ℕ
  rest = drop (at + 1) s

  behind : (n : ℕ) → n ≡ belonging b rest → unusual_behind (belonging b rest) rest ≡ unusual_behind 0 (drop (at + (1 + n)) s)
  behind n is = search (rules, behind_so_many, drop-drop)

  pub step : (v : Bool) (n : ℕ) → v ≡ begins_unusual b rest → n ≡ belonging b rest → Sees s (u || v) (at + (1 + n))
  step v n what is =
      or_further u v _ ∙ ap (λ w. u || w) (ap (λ x. x || unusual_behind 0 (drop (at + (1 + n)) s)) what ∙ ap (λ x. begins_unusual b rest || x) (sym (behind n is)) ∙ sym (ap (unusual_behind 0) cell)) ∙ sees

  starts_counted : starts_symbol b ≡ true → prefix_len continues_symbol (drop at s) ≡ 1 + prefix_len continues_symbol rest
  starts_counted e = rw (cell, continues b e) refl

  belongs : starts_symbol b ≡ true → prefix_len continues_symbol rest ≡ belonging b rest
  belongs e = rw e refl

  letter_starts : is_letter b ≡ true → starts_symbol b ≡ true
  letter_starts e = rw e refl

  letter_is : is_letter b ≡ true → unusual_letter b ≡ begins_unusual b rest
  letter_is e = rw e refl

  number_is : (n : ℕ) → is_letter b ≡ false → is_digit b ≡ true → n ≡ prefix_len continues_symbol (drop at s) → unusual_number b n ≡ begins_unusual b rest
  number_is n e f value = ap (unusual_number b) (value ∙ ap (prefix_len continues_symbol) cell) ∙ sym (second (is_letter b) (is_digit b) _ _ _ e f)

  other_is : is_letter b ≡ false → is_digit b ≡ false → unusual_other b rest ≡ begins_unusual b rest
  other_is e f = rw (e, f) refl

  pub letter_sees : (n : ℕ) → is_letter b ≡ true → n ≡ prefix_len continues_symbol (drop at s) → Sees s (u || unusual_letter b) (at + n)
  letter_sees n e value =
      subst (λ m. Sees s (u || unusual_letter b) (at + m)) (sym (value ∙ starts_counted (letter_starts e)))
      (step (unusual_letter b) (prefix_len continues_symbol rest) (letter_is e) (belongs (letter_starts e)))

  pub number_sees : (n : ℕ) → is_letter b ≡ false → is_digit b ≡ true → n ≡ prefix_len continues_symbol (drop at s) → Sees s (u || unusual_number b n) (at + n)
  number_sees n e f value =
      subst (λ m. Sees s (u || unusual_number b n) (at + m)) (sym (value ∙ starts_counted (starts_by b f)))
      (step (unusual_number b n) (prefix_len continues_symbol rest) (number_is n e f value) (belongs (starts_by b f)))

  pub other_sees : (n : ℕ) → is_letter b ≡ false → is_digit b ≡ false → n ≡ skipped b rest → Sees s (u || unusual_other b rest) (at + (1 + n))
  other_sees n e f value = step (unusual_other b rest) n (other_is e f) (rw (starts_by_none b e f) value)

  or_false : (x : Bool) → x || false ≡ x
  or_false x = grind (arith, common_steps)

  usual_sees : false ≡ begins_unusual b rest → 0 ≡ belonging b rest → Sees s u (at + 1)
  usual_sees what is = subst (λ v. Sees s v (at + 1)) (or_false u) (step false 0 what is)

  pub space_sees : is_space b ≡ true → Sees s u (at + 1)
  space_sees e = grind (arith, common_steps, white, usual_sees)

  pub period_sees : b ≡ 46 → Sees s u (at + 1)
  period_sees e = usual_sees (subst (λ c. false ≡ begins_unusual c rest) (sym e) refl) (subst (λ c. 0 ≡ belonging c rest) (sym e) refl)
