-- Lists of what is found, and the only element of one.
use Rattle.chess_text.proofs.Words.{◌≡◌, ◌⊎◌, inl, inr, ℕ, zero, suc, ◌+◌, ◌<◌, ◌≤◌, Bool, true, false, List, [], ◌∷◌, ◌++◌, map, length, take, drop, get_or, append-nil, Option, None, Some, refl, sym, ◌∙◌, ap, ap₂, arith, Ok, Err, sum_by, option_to_list, ok_or, filter, filter_map, cons_option, Contains, IsPermutation, get_or-map, length-map, take_more, take_all, take-append-drop, sum_by-cons, filter_map-append, Contains-permutation, sum_by-IsPermutation, Played, NoMove, Ambiguous, only, common_steps}
use Rattle.std.specs.Option.{is_some}

-- Elements.

pub here : {X : Type 0} (x : X) (xs : List X) → Contains (x ∷ xs) x
here x xs = (0, omega arith, refl)

module _ {X : Type 0} (x y : X) (xs : List X) where
  pub later : Contains xs y → Contains (x ∷ xs) y
  later (k, low, is) = (suc k, omega arith, is)

  -- an element is the first, or one of the others
  pub element : Contains (x ∷ xs) y → (x ≡ y) ⊎ Contains xs y
  element (zero, low, is) = inl is
  element (suc k, low, is) = inr (k, omega arith, is)

pub none_in : {X : Type 0} (y : X) → Contains [] y → ⊥
none_in y (k, low, is) = omega arith

pub only_in : {X : Type 0} (x y : X) → Contains (x ∷ []) y → x ≡ y
only_in x y (zero, low, is) = is
only_in x y (suc k, low, is) = absurd (omega arith)

pub in_map : {X Y : Type 0} (f : X → Y) (xs : List X) (x : X) → Contains xs x → Contains (map f xs) (f x)
in_map f xs x (k, low, is) = (k, omega (arith, length-map xs f), get_or-map f xs k x (f x) low ∙ ap f is)

pub record MapsTo {X Y : Type 0} (f : X → Y) (xs : List X) (y : Y) : Type 0 where
  pub at : X
  pub among : Contains xs at
  pub gives : f at ≡ y

pub of_map : {X Y : Type 0} (f : X → Y) (xs : List X) (y : Y) → Contains (map f xs) y → MapsTo f xs y
of_map f [] y c = absurd (none_in y c)
of_map {X} {Y} f (x ∷ xs) y c =
    elim (element _ y _ c) [
      | inl is ↦ record { at = x; among = here x xs; gives = is }
      | inr more ↦ let g = of_map f xs y more in record { at = g.at; among = later x g.at xs g.among; gives = g.gives }
    ]

-- What is found.

pub in_found : {X Y : Type 0} (h : X → Option Y) (xs : List X) (x : X) (y : Y) → Contains xs x → h x ≡ Some y → Contains (filter_map h xs) y
in_found h [] x y c e = absurd (none_in x c)
in_found {X} {Y} h (z ∷ zs) x y c e =
    elim (element z x zs c) [
      | inl is ↦ rw (ap h is ∙ e) (here y _)
      | inr more ↦ keeps _ (in_found h zs x y more e)
    ]
  where
    keeps : (o : Option Y) → Contains (filter_map h zs) y → Contains (cons_option o (filter_map h zs)) y
    keeps None g = g
    keeps (Some w) g = later w y _ g

-- where an element was found
pub record FoundAt {X Y : Type 0} (h : X → Option Y) (xs : List X) (y : Y) : Type 0 where
  pub at : X
  pub among : Contains xs at
  pub gives : h at ≡ Some y

found_further : {X Y : Type 0} (h : X → Option Y) (z : X) (zs : List X) (y : Y) → FoundAt h zs y → FoundAt h (z ∷ zs) y
found_further h z zs y f = record { at = f.at; among = later z f.at zs f.among; gives = f.gives }

pub found_in : {X Y : Type 0} (h : X → Option Y) (xs : List X) (y : Y) → Contains (filter_map h xs) y → FoundAt h xs y
found_in h [] y c = absurd (none_in y c)
found_in {X} {Y} h (z ∷ zs) y c = by_found _ refl c (found_in h zs y)
  where
    by_found : (o : Option Y) → h z ≡ o → Contains (cons_option o (filter_map h zs)) y
        → (Contains (filter_map h zs) y → FoundAt h zs y) → FoundAt h (z ∷ zs) y
    by_found None e g more = found_further h z zs y (more g)
    by_found (Some w) e g more =
        elim (element w y _ g) [
          | inl is ↦ record { at = z; among = here z zs; gives = e ∙ ap Some is }
          | inr other ↦ found_further h z zs y (more other)
        ]

-- how many are found
abbrev pub count_found : {X Y : Type 0} → (X → Option Y) → X → ℕ
count_found h x = length (cons_option (h x) [])

pub length-found : {X Y : Type 0} (h : X → Option Y) (xs : List X) → length (filter_map h xs) ≡ sum_by (count_found h) xs
length-found h [] = refl
length-found h (x ∷ xs) = grind (arith, sum_by-cons (count_found h) x xs, length-found h xs)

pub filter_map-map : {X Y Z : Type 0} (h : Y → Option Z) (f : X → Y) (xs : List X) → filter_map h (map f xs) ≡ filter_map (λ x. h (f x)) xs
filter_map-map h f [] = refl
filter_map-map {X} {Y} {Z} h f (x ∷ xs) = cc (filter_map-map h f xs)

-- a filter that loses nothing
pub filter_map-filter : {X Y : Type 0} (h : X → Option Y) (c : X → Bool)
    → ((x : X) → c x ≡ false → h x ≡ None) → (xs : List X) → filter_map h (filter c xs) ≡ filter_map h xs
filter_map-filter h c lost [] = refl
filter_map-filter h c lost (x ∷ xs) = grind (arith, lost, filter_map-filter h c lost xs)

-- The only element.

only_same : (xs ys : List Played) → length xs ≡ length ys → ((x : Played) → Contains xs x → Contains ys x) → only xs ≡ only ys
only_same [] [] e among = refl
only_same (x ∷ []) (y ∷ []) e among = ap Ok (sym (only_in y x (among x (here x []))))
only_same (x ∷ w ∷ ws) (y ∷ z ∷ zs) e among = refl
only_same xs ys e among = absurd (omega arith)

-- the order decides nothing
pub only_permuted : {X : Type 0} (h : X → Option Played) (xs ys : List X)
    → IsPermutation xs ys → only (filter_map h xs) ≡ only (filter_map h ys)
only_permuted h xs ys perm =
    only_same _ _
    (length-found h xs ∙ sym (sum_by-IsPermutation _ xs ys perm) ∙ sym (length-found h ys))
    (λ y c.
    let f = found_in h xs y c in
    in_found h ys f.at y (Contains-permutation xs ys f.at perm f.among) f.gives)

-- one element more
pub found_more : {X Y : Type 0} (h : X → Option Y) (xs : List X) (i : ℕ) (d : X) (o : Option Y) → i < length xs
    → o ≡ h (get_or xs i d) → filter_map h (take (i + 1) xs) ≡ filter_map h (take i xs) ++ cons_option o []
found_more {X} {Y} h xs i d o low is = cc (take_more xs i d low, filter_map-append h (take i xs) (get_or xs i d ∷ []))

pub only_so_far : (o : Option Played) → ok_or o NoMove ≡ only (option_to_list o)
only_so_far o = grind arith

-- a second one, wherever it was found
pub only_two : {X : Type 0} (h : X → Option Played) (xs : List X) (n : ℕ) (x y : Played)
    → filter_map h (take n xs) ≡ (x ∷ []) ++ (y ∷ []) → only (filter_map h xs) ≡ Err Ambiguous
only_two {X} h xs n x y e = cc (take-append-drop n xs, filter_map-append h (take n xs) (drop n xs))

-- What is left of a list: its next element, with the others, or nothing.

pub record NextOf {X : Type 0} (xs : List X) (n : ℕ) (x : X) (others : List X) : Type 0 where
  pub low : n < length xs
  pub is : x ≡ get_or xs n x
  pub left : others ≡ drop (suc n) xs

pub next_of : {X : Type 0} (xs : List X) (n : ℕ) (x : X) (others : List X) → drop n xs ≡ x ∷ others → NextOf xs n x others
next_of [] n x others e = grind (arith, common_steps)
next_of (y ∷ ys) zero x others e = record { low = omega arith; is = cc; left = cc }
next_of (y ∷ ys) (suc n) x others e =
    let more = next_of ys n x others e in
    record { low = omega (arith, more.low); is = more.is; left = more.left }

pub none_left : {X : Type 0} (xs : List X) (n : ℕ) → drop n xs ≡ [] → length xs ≤ n
none_left [] n e = omega arith
none_left (y ∷ ys) zero e = absurd (cc)
none_left (y ∷ ys) (suc n) e = omega (arith, none_left ys n e)

-- What a loop has found after the first i elements: nothing, or one.
module _ {X : Type 0} (h : X → Option Played) (xs : List X) (i : ℕ)
    (found : Option Played) (so_far : filter_map h (take i xs) ≡ option_to_list found) where
  pub still_none : (d : X) (o : Option Played) → i < length xs → o ≡ h (get_or xs i d)
      → o ≡ None → filter_map h (take (i + 1) xs) ≡ option_to_list found
  still_none d o low is none = cc (found_more h xs i d o low is, append-nil _)

  pub first_one : (d : X) (o : Option Played) (y : Played) → i < length xs → o ≡ h (get_or xs i d)
      → o ≡ Some y → is_some found ≡ false → filter_map h (take (i + 1) xs) ≡ y ∷ []
  first_one d o y low is some none =
      cc (found_more h xs i d o low is, nothing found none)
    where
      nothing : (f : Option Played) → is_some f ≡ false → option_to_list f ≡ []
      nothing f e = grind arith

  pub second_one : (d : X) (o : Option Played) (y : Played) → i < length xs → o ≡ h (get_or xs i d)
      → o ≡ Some y → is_some found ≡ true → Err Ambiguous ≡ only (filter_map h xs)
  second_one d o y low is some one = by_found found one so_far
    where
      by_found : (f : Option Played) → is_some f ≡ true
          → filter_map h (take i xs) ≡ option_to_list f → Err Ambiguous ≡ only (filter_map h xs)
      by_found None e g = cc
      by_found (Some x) e g =
          sym (only_two h xs (i + 1) x y
          (found_more h xs i d o low is ∙ ap₂ (λ (ys : List Played) (p : Option Played). ys ++ cons_option p []) g some))

  pub not_at_once : is_some found ≡ true → 1 ≤ i
  not_at_once one = grind arith

  pub at_the_end : length xs ≤ i → ok_or found NoMove ≡ only (filter_map h xs)
  at_the_end all = cc (only_so_far found, take_all i xs all)
