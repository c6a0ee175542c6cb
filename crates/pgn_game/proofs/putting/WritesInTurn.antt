-- Texts written in turn.
use Rattle.pgn_game.proofs.Words.{◌≡◌, ℕ, ◌+◌, ◌<◌, List, [], ◌∷◌, ◌++◌, length, take, drop, get_or, Option, ap, sym, ◌∙◌, refl, add-one, append-nil, append_assoc, Some, slice_get, Result, take-suc, take-append-drop, slice_get_within, get_or_from_slice_get, Appends-trans, Appends, AppendsFront, Counts, text_by, rules}
use Rattle.pgn_layout.proofs.OneWriteMore.{front_after, front_of_more}

module _ {A : Type 0} (f : A → List ℕ) where
  text_by-append : (xs ys : List A) → text_by f (xs ++ ys) ≡ text_by f xs ++ text_by f ys
  text_by-append [] ys = refl
  text_by-append (x ∷ xs) ys = cc (text_by-append xs ys, append_assoc (f x) (text_by f xs) (text_by f ys))

  -- one element more
  text_by-next : (xs : List A) (i : ℕ) (x : A) → i < length xs → get_or xs i x ≡ x → text_by f (take (i + 1) xs) ≡ text_by f (take i xs) ++ f x
  text_by-next xs i x h e = cc (add-one i, take-suc xs i x h, text_by-append (take i xs) (x ∷ []), append-nil (f x))

  -- the texts so far, and the next one
  pub next_text : (xs : List A) (i : ℕ) (x : A) (a b c : Option (List ℕ)) → i < length xs → get_or xs i x ≡ x
      → Appends a b (text_by f (take i xs)) → Appends b c (f x) → Appends a c (text_by f (take (i + 1) xs))
  next_text xs i x a b c h e done next = rw (text_by-next xs i x h e) (Appends-trans a b c _ _ done next)

  -- the texts so far, and a front of the next one
  pub next_front : (xs : List A) (i : ℕ) (x : A) (a b c : Option (List ℕ)) → i < length xs → get_or xs i x ≡ x
      → Appends a b (text_by f (take i xs)) → AppendsFront b c (f x) → AppendsFront a c (text_by f xs)
  next_front xs i x a b c h e done next =
      let whole =
      ap (text_by f) (sym (take-append-drop _ xs)) ∙ text_by-append (take _ xs) (drop _ xs)
      ∙ ap (λ l. l ++ text_by f (drop (i + 1) xs)) (text_by-next xs i x h e) in
      rw whole (front_of_more a c _ _ (front_after a b c _ _ done next))

-- at a place that is known to hold the element
pub within_at : {A : Type 0} (xs : List A) (i : ℕ) (x : A) → slice_get xs i ≡ Some x → (i < length xs) × (get_or xs i x ≡ x)
within_at xs i x e = (slice_get_within xs i x e, get_or_from_slice_get xs i x x e)

-- a call that fails counts once, also behind calls that did not fail
pub counts_behind : {A E : Type 0} (m n o : ℕ) (r : Result A E) → n ≡ m → Counts r n o → Counts r m o
counts_behind m n o r same counted = search rules
