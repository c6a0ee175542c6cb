-- Lists that are joined from those of each element.
use Rattle.chess_rules.proofs.Words.{◌≡◌, Bool, false, List, [], ◌∷◌, ◌++◌, map, Option, None, refl, ◌∙◌, ap, ap₂, cons_option, filter, filter_map, flat_map, arith, common_steps, map-append, filter_map-append}

module _ {X Y Z : Type 0} where
  pub found_in_all : (h : Y → Option Z) (f : X → List Y) (xs : List X)
      → filter_map h (flat_map f xs) ≡ flat_map (λ x. filter_map h (f x)) xs
  found_in_all h f [] = refl
  found_in_all h f (x ∷ xs) = grind (arith, common_steps, filter_map-append, (found_in_all h f xs))

  pub none_found : (h : Y → Option Z) (f : X → Y) (xs : List X) → ((x : X) → h (f x) ≡ None) → filter_map h (map f xs) ≡ []
  none_found h f [] none = refl
  none_found h f (x ∷ xs) none = ap₂ cons_option (none x) (none_found h f xs none)

  pub map-flat_map : (g : Y → Z) (f : X → List Y) (xs : List X) → map g (flat_map f xs) ≡ flat_map (λ x. map g (f x)) xs
  map-flat_map g f [] = refl
  map-flat_map g f (x ∷ xs) = map-append g (f x) (flat_map f xs) ∙ ap (λ zs. map g (f x) ++ zs) (map-flat_map g f xs)

module _ {X Y : Type 0} where
  pub each_same : (f g : X → List Y) (xs : List X) → ((x : X) → f x ≡ g x) → flat_map f xs ≡ flat_map g xs
  each_same f g [] same = refl
  each_same f g (x ∷ xs) same = ap₂ (λ a b. a ++ b) (same x) (each_same f g xs same)

  -- what gives nothing may be left out
  pub all_kept : (f : X → List Y) (kept : X → Bool) (xs : List X) → ((x : X) → kept x ≡ false → f x ≡ [])
      → flat_map f (filter kept xs) ≡ flat_map f xs
  all_kept f kept [] none = refl
  all_kept f kept (x ∷ xs) none = grind (arith, common_steps, (all_kept f kept xs none))

  pub all_nothing : (f : X → List Y) (xs : List X) → ((x : X) → f x ≡ []) → flat_map f xs ≡ []
  all_nothing f [] none = refl
  all_nothing f (x ∷ xs) none = ap₂ (λ a b. a ++ b) (none x) (all_nothing f xs none)
