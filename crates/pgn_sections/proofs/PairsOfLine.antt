-- What the code reads of tag pairs at the front of a line, byte by byte, is what the line has.
use Rattle.std.proofs.Common.{rules}
use Rattle.pgn_sections.proofs.Words.{or-true, or-false, ◌≡◌, ℕ, ◌+◌, ◌-◌, ◌≤◌, Bool, true, false, List, [], ◌∷◌, Option, None, Some, length, drop, refl, sym, ◌∙◌, ap, subst, arith, true≢false, common_steps, length-drop, ◌||◌, ◌==◌, suc, zero, is_some, option_map, if◌then◌else◌, option_and_then, is_line_end, is_space, behind_space, is_name_byte, name_length, at_pair, front_at, front_with, is_between, is_whole, pair_after, behind_left_bracket, behind_pair, behind_pairs, behind_quote, behind_right_bracket, behind_some_pairs, behind_stray, behind_tag_name, behind_value, is_stray_or_mark, nothing_read, text_with, FrontOfLine, Stray, BehindLeft, InName, BehindName, InValue, BehindBackslash, BehindValue, Whole, Missing, Text}
use Rattle.pgn_lexer.specs.Lexes.{is_escaped}
use Rattle.pgn_sections.proofs.Fronts.{drop_more, drop_none, name_more, name_none, space_more, space_none}
use Rattle.pgn_sections.proofs.TextOfLine.{text_over}
use Rattle.pgn_sections.specs.PairProgress as spec
use Rattle.pgn_sections.specs.declared.pair.PairProgress.{PairProgress}

-- the text behind a tag pair of which this is read, and white space
abbrev behind_rest : PairProgress → List ℕ → Option (List ℕ)
behind_rest Stray s = None
behind_rest BehindLeft s = behind_left_bracket s
behind_rest InName s = behind_tag_name (drop (name_length s) s)
behind_rest BehindName s = behind_tag_name s
behind_rest InValue s = behind_quote s
behind_rest BehindBackslash s = option_and_then (λ rest. behind_right_bracket rest) (behind_value true s)
behind_rest BehindValue s = behind_right_bracket s
behind_rest Whole s = Some (behind_space s)
behind_rest Missing s = None

-- One byte of each part. The tests of the byte are variables.

in_left : (t u : Bool) (b : ℕ) (s : List ℕ) → is_space b ≡ t → is_name_byte b ≡ u
    → behind_left_bracket (b ∷ s) ≡ behind_rest (if t then BehindLeft else if u then InName else Missing) s
in_left t u b s e h = grind (arith, common_steps, space_more, space_none, name_more, name_none)

at_quote : (u : Bool) (s : List ℕ)
    → option_and_then (λ rest. behind_quote rest) (if u then Some s else None) ≡ behind_rest (if u then InValue else Missing) s
at_quote u s = grind (arith, common_steps)

behind_a_name : (t : Bool) (b : ℕ) (s : List ℕ) → is_space b ≡ t
    → behind_tag_name (b ∷ s) ≡ behind_rest (if t then BehindName else if b == 34 then InValue else Missing) s
behind_a_name t b s e = grind (arith, common_steps, space_more, space_none, at_quote)

in_name : (t : Bool) (b : ℕ) (s : List ℕ) → is_name_byte b ≡ t
    → behind_tag_name (drop (name_length (b ∷ s)) (b ∷ s)) ≡ behind_rest (if t then InName else spec.behind_name b) s
in_name t b s e = search (rules, drop_more, drop_none, behind_a_name)

in_value : (t u v : Bool) (s : List ℕ)
    → option_and_then (λ rest. behind_right_bracket rest) (if t then Some s else if u then None else behind_value v s)
    ≡ behind_rest (if t then BehindValue else if u then Missing else if v then BehindBackslash else InValue) s
in_value t u v s = grind (arith, common_steps)

behind_backslash : (t u : Bool) (s : List ℕ)
    → option_and_then (λ rest. behind_right_bracket rest) (if t then behind_value false s else if u then None else behind_value false s)
    ≡ behind_rest (if t then InValue else if u then Missing else InValue) s
behind_backslash t u s = grind (arith, common_steps)

at_right : (u : Bool) (s : List ℕ) → option_map (λ rest. behind_space rest) (if u then Some s else None) ≡ behind_rest (if u then Whole else Missing) s
at_right u s = grind (arith, common_steps)

behind_a_value : (t : Bool) (b : ℕ) (s : List ℕ) → is_space b ≡ t
    → behind_right_bracket (b ∷ s) ≡ behind_rest (if t then BehindValue else if b == 93 then Whole else Missing) s
behind_a_value t b s e = grind (arith, common_steps, space_more, space_none, at_right)

-- one byte of a pair that is not whole
one_byte : (x : PairProgress) (b : ℕ) (s : List ℕ) → is_between x ≡ false → behind_rest x (b ∷ s) ≡ behind_rest (pair_after x b) s
one_byte Stray b s h = absurd (true≢false h)
one_byte BehindLeft b s h = in_left (is_space b) (is_name_byte b) b s refl refl
one_byte InName b s h = in_name (is_name_byte b) b s refl
one_byte BehindName b s h = behind_a_name (is_space b) b s refl
one_byte InValue b s h = in_value (b == 34) (is_line_end b) (b == 92) s
one_byte BehindBackslash b s h = behind_backslash (is_escaped b) (is_line_end b) s
one_byte BehindValue b s h = behind_a_value (is_space b) b s refl
one_byte Whole b s h = absurd (true≢false h)
one_byte Missing b s h = refl

no_byte : (x : PairProgress) → is_between x ≡ false → behind_rest x [] ≡ None
no_byte x h = grind (arith, common_steps, true≢false)

-- behind a byte of a pair the text begins anew only if the pair is whole
abbrev EndsWhole : PairProgress → Type 0
EndsWhole x = is_between x ≡ is_whole x

ends_three : (t u : Bool) (x y z : PairProgress) → EndsWhole x → EndsWhole y → EndsWhole z → EndsWhole (if t then x else if u then y else z)
ends_three t u x y z h k l = grind (arith, common_steps)

ends_two : (t : Bool) (x y : PairProgress) → EndsWhole x → EndsWhole y → EndsWhole (if t then x else y)
ends_two t x y h k = grind (arith, common_steps)

ends_whole : (x : PairProgress) (b : ℕ) → is_between x ≡ false → EndsWhole (pair_after x b)
ends_whole x b h = grind (arith, common_steps, true≢false, ends_three, ends_two)

is_the_whole : (x : PairProgress) → is_whole x ≡ true → x ≡ Whole
is_the_whole x h = grind (arith, common_steps)

-- with the bytes of a text, from a place on
abbrev pub front_over : FrontOfLine → ℕ → List ℕ → FrontOfLine
front_over f p [] = f
front_over f p (b ∷ s) = front_over (front_with f p b) (p + 1) s

abbrev front : PairProgress → Bool → Text → FrontOfLine
front x has_pair t = record { pair = x; has_pair = has_pair; text = t }

-- a byte of a pair that is not whole then, and one that ends it
goes_in : (x : PairProgress) (h : Bool) (t : Text) (p b : ℕ) → is_between x ≡ false → is_whole x ≡ false
    → front_at x (front x h t) p b ≡ front x h (text_with t p b)
goes_in x h t p b e w = rw (w, e, or-false h) refl

ends_pair : (f : FrontOfLine) (p b : ℕ) → front_at Whole f p b ≡ front Whole true nothing_read
ends_pair f p b = ap (λ (h : Bool). front Whole h nothing_read) (or-true f.has_pair)

-- what is kept of the front of a whole line
pub record Keeps (f : FrontOfLine) (h : Bool) (t : Text) : Type 0 where
  pub has_pair : f.has_pair ≡ h
  pub text : f.text ≡ t

-- a line that ends in what is no whole pair
pub none_ends : (x : PairProgress) (h : Bool) (t : Text) (p : ℕ) (s : List ℕ) → is_between x ≡ false → behind_rest x s ≡ None
    → Keeps (front_over (front x h t) p s) h (text_over t p s)
none_ends x h t p [] apart none = record { has_pair = refl; text = refl }
none_ends x h t p (b ∷ s) apart none =
    behind_byte_of (is_whole (pair_after x b)) refl (λ y. none_ends y h (text_with t p b) (p + 1) s) where
      left : behind_rest (pair_after x b) s ≡ None
      left = sym (one_byte x b s apart) ∙ none

      behind_byte_of : (w : Bool) → is_whole (pair_after x b) ≡ w
          → ((y : PairProgress) → is_between y ≡ false → behind_rest y s ≡ None
          → Keeps (front_over (front y h (text_with t p b)) (p + 1) s) h (text_over (text_with t p b) (p + 1) s))
          → Keeps (front_over (front x h t) p (b ∷ s)) h (text_over t p (b ∷ s))
      behind_byte_of true e more = absurd (cc (sym (ap (λ (y : PairProgress). behind_rest y s) (is_the_whole (pair_after x b) e)) ∙ left))
      behind_byte_of false e more =
          let between = ends_whole x b apart ∙ e in
          subst (λ (f : FrontOfLine). Keeps (front_over f (p + 1) s) h (text_over (text_with t p b) (p + 1) s))
          (sym (goes_in (pair_after x b) h t p b between e))
          (more (pair_after x b) between left)

-- white space behind a pair
spaces : (p q : ℕ) (s : List ℕ) → q + length (behind_space s) ≡ p + length s
    → front_over (front Whole true nothing_read) p s ≡ front_over (front Whole true nothing_read) q (behind_space s)
spaces p q [] e = refl
spaces p q (b ∷ s) e = by_space (is_space b) refl (spaces (p + 1) q s) where
  by_space : (t : Bool) → is_space b ≡ t
      → (q + length (behind_space s) ≡ p + 1 + length s
      → front_over (front Whole true nothing_read) (p + 1) s ≡ front_over (front Whole true nothing_read) q (behind_space s))
      → front_over (front Whole true nothing_read) p (b ∷ s) ≡ front_over (front Whole true nothing_read) q (behind_space (b ∷ s))
  by_space true h more = grind (arith, common_steps, space_more, length)
  by_space false h more =
      let rest = space_none b s h in
      let n : p ≡ q = omega (arith, ap (λ (r : List ℕ). length r) rest, e) in
      ap (λ (k : ℕ). front_over (front Whole true nothing_read) k (b ∷ s)) n
      ∙ ap (λ (r : List ℕ). front_over (front Whole true nothing_read) q r) (sym rest)

-- a line goes on behind a whole pair
whole_goes : (x : PairProgress) (h : Bool) (t : Text) (p q : ℕ) (s rest : List ℕ) → is_between x ≡ false → behind_rest x s ≡ Some rest
    → q + length rest ≡ p + length s → front_over (front x h t) p s ≡ front_over (front Whole true nothing_read) q rest
whole_goes x h t p q [] rest apart found e = absurd (cc (sym (no_byte x apart) ∙ found))
whole_goes x h t p q (b ∷ s) rest apart found e = behind_byte_of (is_whole (pair_after x b)) refl (λ y. whole_goes y h (text_with t p b) (p + 1) q s rest) where
  left : behind_rest (pair_after x b) s ≡ Some rest
  left = sym (one_byte x b s apart) ∙ found

  behind_byte_of : (w : Bool) → is_whole (pair_after x b) ≡ w
      → ((y : PairProgress) → is_between y ≡ false → behind_rest y s ≡ Some rest → q + length rest ≡ p + 1 + length s
      → front_over (front y h (text_with t p b)) (p + 1) s ≡ front_over (front Whole true nothing_read) q rest)
      → front_over (front x h t) p (b ∷ s) ≡ front_over (front Whole true nothing_read) q rest
  behind_byte_of true w more =
      let whole = is_the_whole (pair_after x b) w in
      let same : Some (behind_space s) ≡ Some rest = sym (ap (λ (y : PairProgress). behind_rest y s) whole) ∙ left in
      let is_rest : behind_space s ≡ rest = cc in
      let n : q + length (behind_space s) ≡ p + 1 + length s = omega (arith, ap (λ (r : List ℕ). length r) is_rest, e) in
      ap (λ (y : PairProgress). front_over (front_at y (front x h t) p b) (p + 1) s) whole
      ∙ ap (λ (f : FrontOfLine). front_over f (p + 1) s) (ends_pair (front x h t) p b)
      ∙ spaces (p + 1) q s n
      ∙ ap (λ (r : List ℕ). front_over (front Whole true nothing_read) q r) is_rest
  behind_byte_of false w more =
      let between = ends_whole x b apart ∙ w in
      let n : q + length rest ≡ p + 1 + length s = omega (arith, e) in
      ap (λ (f : FrontOfLine). front_over f (p + 1) s) (goes_in (pair_after x b) h t p b between w)
      ∙ more (pair_after x b) between left n

abbrev begins_with_space : List ℕ → Bool
begins_with_space [] = false
begins_with_space (b ∷ s) = is_space b

-- what is behind a pair
record Rest (s rest : List ℕ) : Type 0 where
  short : length rest ≤ length s
  text : begins_with_space rest ≡ false

rest_behind_space : (s : List ℕ) → Rest s (behind_space s)
rest_behind_space [] = record { short = omega arith; text = refl }
rest_behind_space (b ∷ s) = grind (arith, common_steps, space_more, space_none, (rest_behind_space s))

rest_of : (x : PairProgress) (s rest : List ℕ) → is_between x ≡ false → behind_rest x s ≡ Some rest → Rest s rest
rest_of x [] rest apart found = absurd (cc (sym (no_byte x apart) ∙ found))
rest_of x (b ∷ s) rest apart found = behind_byte_of (is_whole (pair_after x b)) refl (λ y. rest_of y s rest) where
  left : behind_rest (pair_after x b) s ≡ Some rest
  left = sym (one_byte x b s apart) ∙ found

  behind_byte_of : (w : Bool) → is_whole (pair_after x b) ≡ w → ((y : PairProgress) → is_between y ≡ false → behind_rest y s ≡ Some rest → Rest s rest) → Rest (b ∷ s) rest
  behind_byte_of true w more =
      let same : Some (behind_space s) ≡ Some rest = sym (ap (λ (y : PairProgress). behind_rest y s) (is_the_whole (pair_after x b) w)) ∙ left in
      let is_rest : behind_space s ≡ rest = cc in
      let r = rest_behind_space s in
      subst (λ (rest : List ℕ). Rest (b ∷ s) rest) is_rest (record { short = omega (arith, r.short); text = r.text })
  behind_byte_of false w more =
      let r = more (pair_after x b) (ends_whole x b apart ∙ w) left in
      record { short = omega (arith, r.short); text = r.text }

no_pairs : (n : ℕ) → behind_some_pairs n [] ≡ []
no_pairs n = grind (arith, common_steps)

-- the text behind as many pairs, if it begins with this one
abbrev behind_first : ℕ → List ℕ → Option (List ℕ) → List ℕ
behind_first n s o = elim o [ None ↦ s | Some rest ↦ behind_some_pairs n rest ]

-- The tag pairs from the first byte of a text on, which is no white space. The byte can be of one,
-- if it is a bracket.
abbrev Pairs : ℕ → Type 0
Pairs n =
    (x : PairProgress) (h : Bool) (p q b : ℕ) (s : List ℕ) → is_space b ≡ false → length (b ∷ s) ≤ n
    → q + length (behind_some_pairs n (b ∷ s)) ≡ p + length (b ∷ s)
    → Keeps (front_over (front_at (at_pair b) (front x h nothing_read) p b) (p + 1) s) (h || is_some (behind_pair (b ∷ s)))
    (text_over nothing_read q (behind_some_pairs n (b ∷ s)))

-- behind one pair
pairs_behind : (n p q : ℕ) (rest : List ℕ) → Pairs n → begins_with_space rest ≡ false → length rest ≤ n
    → q + length (behind_some_pairs n rest) ≡ p + length rest
    → Keeps (front_over (front Whole true nothing_read) p rest) true (text_over nothing_read q (behind_some_pairs n rest))
pairs_behind n p q [] more text fits e = grind (arith, common_steps, no_pairs)
pairs_behind n p q (b ∷ s) more text fits e =
    subst (λ (t : Bool). Keeps (front_over (front_at (if t then Whole else at_pair b) (front Whole true nothing_read) p b) (p + 1) s) true
    (text_over nothing_read q (behind_some_pairs n (b ∷ s)))) (sym text) (more Whole true p q b s text fits e)

at_place : (f : FrontOfLine) (h : Bool) (p q : ℕ) (s : List ℕ) → p ≡ q → Keeps f h (text_over nothing_read p s) → Keeps f h (text_over nothing_read q s)
at_place f h p q s e k = subst (λ (n : ℕ). Keeps f h (text_over nothing_read n s)) e k

-- The first pair. The byte is a bracket or not, and begins a pair or not.
first_pair : (is_bracket : Bool) (o : Option (List ℕ)) (n : ℕ) (x : PairProgress) (h : Bool) (p q b : ℕ) (s : List ℕ) → Pairs n
    → option_and_then (λ rest. behind_left_bracket rest) (if is_bracket then Some s else None) ≡ o → length (b ∷ s) ≤ suc n
    → q + length (behind_first n (b ∷ s) o) ≡ p + length (b ∷ s)
    → Keeps (front_over (front_at (if is_bracket then BehindLeft else Missing) (front x h nothing_read) p b) (p + 1) s) (h || is_some o)
    (text_over nothing_read q (behind_first n (b ∷ s) o))
first_pair false None n x h p q b s more found fits e =
    at_place _ (h || false) p q (b ∷ s) (omega arith) (none_ends Missing (h || false) (text_with nothing_read p b) (p + 1) s refl refl)
first_pair false (Some rest) n x h p q b s more found fits e = absurd cc
first_pair true None n x h p q b s more found fits e =
    at_place _ (h || false) p q (b ∷ s) (omega arith) (none_ends BehindLeft (h || false) (text_with nothing_read p b) (p + 1) s refl found)
first_pair true (Some rest) n x h p q b s more found fits e =
    let r = rest_of BehindLeft s rest refl found in
    let k : p + 1 + length s - length rest + length rest ≡ p + 1 + length s = omega (arith, r.short) in
    let goes = whole_goes BehindLeft (h || false) (text_with nothing_read p b) (p + 1) (p + 1 + length s - length rest) s rest refl found k in
    let behind = pairs_behind n (p + 1 + length s - length rest) q rest more r.text (omega (arith, r.short, fits)) (omega (arith, k, e)) in
    subst (λ (t : Bool). Keeps (front_over (front BehindLeft (h || false) (text_with nothing_read p b)) (p + 1) s) t (text_over nothing_read q (behind_some_pairs n rest)))
    (sym (or-true h))
    (subst (λ (f : FrontOfLine). Keeps f true (text_over nothing_read q (behind_some_pairs n rest))) (sym goes) behind)

pairs : (n : ℕ) → Pairs n
pairs zero x h p q b s text fits e = absurd (omega arith)
pairs (suc n) x h p q b s text fits e = first_pair (b == 91) (behind_pair (b ∷ s)) n x h p q b s (pairs n) refl fits e

space_is_stray : (b : ℕ) → is_stray_or_mark b ≡ false → is_space b ≡ false
space_is_stray b h = grind (arith, common_steps)

-- the front of a line outside comments
pub front_outside : (p q : ℕ) (s : List ℕ) → q + length (behind_pairs (behind_stray s)) ≡ p + length s
    → Keeps (front_over (front Stray false nothing_read) p s) (is_some (behind_pair (behind_stray s)))
    (text_over nothing_read q (behind_pairs (behind_stray s)))
front_outside p q [] e = record { has_pair = refl; text = refl }
front_outside p q (b ∷ s) e = by_stray (is_stray_or_mark b) refl (front_outside (p + 1) q s) where
  by_stray : (t : Bool) → is_stray_or_mark b ≡ t
      → (q + length (behind_pairs (behind_stray s)) ≡ p + 1 + length s
      → Keeps (front_over (front Stray false nothing_read) (p + 1) s) (is_some (behind_pair (behind_stray s)))
      (text_over nothing_read q (behind_pairs (behind_stray s))))
      → Keeps (front_over (front Stray false nothing_read) p (b ∷ s)) (is_some (behind_pair (behind_stray (b ∷ s))))
      (text_over nothing_read q (behind_pairs (behind_stray (b ∷ s))))
  by_stray true h more =
      let rest = drop_more is_stray_or_mark b s h in
      let n : q + length (behind_pairs (behind_stray s)) ≡ p + 1 + length s =
      omega (arith, ap (λ (r : List ℕ). length (behind_pairs r)) rest, e) in
      subst (λ (r : List ℕ). Keeps (front_over (front Stray false nothing_read) p (b ∷ s)) (is_some (behind_pair r)) (text_over nothing_read q (behind_pairs r))) (sym rest)
      (subst (λ (t : Bool). Keeps (front_over (front_at (if t then Stray else at_pair b) (front Stray false nothing_read) p b) (p + 1) s)
      (is_some (behind_pair (behind_stray s))) (text_over nothing_read q (behind_pairs (behind_stray s)))) (sym h) (more n))
  by_stray false h more =
      let rest = drop_none is_stray_or_mark b s h in
      let n : q + length (behind_pairs (b ∷ s)) ≡ p + length (b ∷ s) =
      omega (arith, ap (λ (r : List ℕ). length (behind_pairs r)) rest, e) in
      subst (λ (r : List ℕ). Keeps (front_over (front Stray false nothing_read) p (b ∷ s)) (is_some (behind_pair r)) (text_over nothing_read q (behind_pairs r))) (sym rest)
      (subst (λ (t : Bool). Keeps (front_over (front_at (if t then Stray else at_pair b) (front Stray false nothing_read) p b) (p + 1) s)
      (is_some (behind_pair (b ∷ s))) (text_over nothing_read q (behind_pairs (b ∷ s)))) (sym h)
      (pairs (length (b ∷ s)) Stray false p q b s (space_is_stray b h) (omega arith) n))

-- what is behind tag pairs is no longer than the line

pair_short : (s rest : List ℕ) → behind_pair s ≡ Some rest → length rest ≤ length s
pair_short [] rest found = absurd cc
pair_short (b ∷ s) rest found = by_bracket (b == 91) found where
  by_bracket : (t : Bool) → option_and_then (λ rest. behind_left_bracket rest) (if t then Some s else None) ≡ Some rest → length rest ≤ length (b ∷ s)
  by_bracket true e = omega (arith, (rest_of BehindLeft s rest refl e).short)
  by_bracket false e = absurd cc

some_short : (n : ℕ) (s : List ℕ) → length (behind_some_pairs n s) ≤ length s
some_short zero s = omega arith
some_short (suc n) s = behind_one (behind_pair s) refl (some_short n) where
  behind_one : (o : Option (List ℕ)) → behind_pair s ≡ o → ((rest : List ℕ) → length (behind_some_pairs n rest) ≤ length rest) → length (behind_first n s o) ≤ length s
  behind_one o e more = grind (arith, common_steps, pair_short)

pub pairs_short : (s : List ℕ) → length (behind_pairs (behind_stray s)) ≤ length s
pairs_short s = grind (arith, common_steps, some_short, length, length-drop)
