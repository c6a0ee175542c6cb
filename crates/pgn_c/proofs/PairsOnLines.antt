-- The scan of a line finds the tag pair that is on it, and no other.
use Rattle.pgn_c.proofs.Words.{◌≡◌, ◌≢◌, inl, inr, ℕ, ◌+◌, ◌≤◌, Bool, true, false, ◌&&◌, ◌||◌, List, [], ◌∷◌, ◌++◌, length, drop, refl, sym, ◌∙◌, ap, ap₂, arith, append_assoc, length-append, Option, None, Some, codes, in_name, PgnTag, BeginsWithTag, TagResult, no_tag, text_behind, name_length, one_more, length_to_quote, value_length, first_pair, common_steps, ◌==◌, nat_le, if◌then◌else◌, MatchOption, IfSome, list_all, cases_Bool, true_from_ne_false, and_parts, and_from, eqb-true, eq-eqb, leb-true, le-leb}
use denote.Ref.{Bor}
use Rattle.std.proofs.lemmas.List.Prefix.{front_rest}
use Rattle.pgn_layout.specs.TagLine.{needs_escape, escaped, tag_line}
use Rattle.pgn_c.specs.declared.tag.PairLengths.{PairLengths}

-- ---- a front, and the text behind it

pub behind_joined : (front rest : List ℕ) → text_behind front (front ++ rest) ≡ Some rest
behind_joined [] rest = refl
behind_joined (b ∷ front) rest =
    ap (λ (same : Bool). if same then text_behind front (front ++ rest) else None) (eq-eqb b b refl) ∙ behind_joined front rest

pub behind_is : (front s rest : List ℕ) → text_behind front s ≡ Some rest → s ≡ front ++ rest
behind_is [] s rest h = cc
behind_is (b ∷ front) [] rest h = absurd (cc)
behind_is (b ∷ front) (c ∷ s) rest h =
    elim (cases_Bool (b == c)) [
      | inl e ↦ ap₂ (λ (x : ℕ) (xs : List ℕ). x ∷ xs) (sym (eqb-true b c e)) (behind_is front s rest (rw e at h))
      | inr e ↦ let g = rw e at h in absurd (cc)
    ]

-- what is known to be there
some_of : {A : Type 0} → (o : Option A) → (o ≡ None → ⊥) → (x : A) × (o ≡ Some x)
some_of o none = grind (arith, common_steps)

pub behind_none : (front s : List ℕ) → ((rest : List ℕ) → s ≢ front ++ rest) → text_behind front s ≡ None
behind_none front s other = by_rest (text_behind front s) refl
  where
    by_rest : (o : Option (List ℕ)) → text_behind front s ≡ o → text_behind front s ≡ None
    by_rest None e = e
    by_rest (Some rest) e = absurd (other rest (behind_is front s rest e))

pub behind_some : (front s rest : List ℕ) → s ≡ front ++ rest → text_behind front s ≡ Some rest
behind_some front s rest is = ap (λ (t : List ℕ). text_behind front t) is ∙ behind_joined front rest

-- ---- a name

name_ends : (name rest : List ℕ) → list_all in_name name ≡ true → name_length (name ++ 32 ∷ rest) ≡ length name
name_ends [] rest h = refl
name_ends (b ∷ name) rest h = grind (arith, and_parts, name_ends name rest)

-- the front of a text that can be a name
record Named (s : List ℕ) : Type 0 where
  name : List ℕ
  behind : List ℕ
  is : s ≡ name ++ behind
  bytes : list_all in_name name ≡ true
  long : length name ≡ name_length s

named : (s : List ℕ) → Named s
named [] = record { name = []; behind = []; is = refl; bytes = refl; long = refl }
named (b ∷ s) =
    let others = named s in
    elim (cases_Bool (in_name b)) [
      | inl e ↦ record {
        name = b ∷ others.name;
        behind = others.behind;
        is = ap (λ (t : List ℕ). b ∷ t) others.is;
        bytes = and_from (in_name b) (list_all in_name others.name) e others.bytes;
        long = rw e (omega (arith, others.long));
      }
      | inr e ↦ record { name = []; behind = b ∷ s; is = refl; bytes = refl; long = rw e }
    ]

-- ---- a value

to_quote : (value rest : List ℕ) → value_length (escaped value ++ 34 ∷ rest) ≡ Some (length (escaped value))
to_quote [] rest = refl
to_quote (b ∷ value) rest = grind (arith, to_quote value rest)

-- a value that ends with a quote after so many bytes
record Closed (s : List ℕ) (n : ℕ) : Type 0 where
  value : List ℕ
  behind : List ℕ
  is : s ≡ escaped value ++ 34 ∷ behind
  long : length (escaped value) ≡ n

-- one byte more, with a backslash before it where it needs one
closed_more : (b : ℕ) (s : List ℕ) (n : ℕ) (e : Bool) → needs_escape b ≡ e → Closed s n
    → Closed ((if e then 92 ∷ b ∷ [] else b ∷ []) ++ s) (length (if e then 92 ∷ b ∷ [] else b ∷ []) + n)
closed_more b s n e is c =
    record { value = b ∷ c.value; behind = c.behind; is = rw (is, append_assoc, ← c.is); long = rw (is, length-append, c.long) }

-- one less of what is found
less_one : (o : Option ℕ) (n : ℕ) → one_more o ≡ Some n → (m : ℕ) × (o ≡ Some m) × (n ≡ m + 1)
less_one o n h = grind (arith, common_steps)

-- the text that is read, with the backslash before it
abbrev with_backslash : Bool → List ℕ → List ℕ
with_backslash true s = 92 ∷ s
with_backslash false s = s

abbrev with_one : Bool → ℕ → ℕ
with_one true n = n + 1
with_one false n = n

closed : (s : List ℕ) (escaping : Bool) (n : ℕ) → length_to_quote escaping s ≡ Some n
    → Closed (with_backslash escaping s) (with_one escaping n)
closed [] true n h = absurd (cc)
closed [] false n h = absurd (cc)
closed (b ∷ s) true n h =
    elim (cases_Bool (needs_escape b)) [
      | inl e ↦ let (m, is, more) = less_one (length_to_quote false s) n (rw e at h) in
          let same : n + 1 ≡ 2 + m = omega arith in rw same (closed_more b s m true e (closed s false m is))
      | inr e ↦ let g = rw e at h in absurd (cc)
    ]
closed (b ∷ s) false n h =
    elim (cases_Bool (b == 34)) [
      | inl e ↦ let g = rw e at h in record { value = []; behind = s; is = ap (λ (c : ℕ). c ∷ s) (eqb-true b 34 e); long = cc }
      | inr e ↦ elim (cases_Bool (b == 92)) [
        | inl f ↦ let (m, is, more) = less_one (length_to_quote true s) n (rw (e, f) at h) in rw (eqb-true b 92 f, more) (closed s true m is)
        | inr f ↦ let (m, is, more) = less_one (length_to_quote false s) n (rw (e, f) at h) in
            let same : n ≡ 1 + m = omega arith in rw same (closed_more b s m false (ap₂ (λ (x y : Bool). x || y) e f) (closed s false m is))
      ]
    ]

-- ---- the whole line

line_parts : (name value rest : List ℕ)
    → tag_line name value ++ rest ≡ 91 ∷ (name ++ (32 ∷ 34 ∷ (escaped value ++ (34 ∷ 93 ∷ 10 ∷ rest))))
line_parts name value rest = grind (arith, common_steps, append_assoc)

pub line_long : (name value : List ℕ) → length (tag_line name value) ≡ length name + length (escaped value) + 6
line_long name value = grind (arith, common_steps, length-append)

fits_name : (n : ℕ) → 1 ≤ n → n ≤ 255 → (nat_le 1 n && nat_le n 255) ≡ true
fits_name n some short = and_from (nat_le 1 n) (nat_le n 255) (le-leb 1 n some) (le-leb n 255 short)

drop_front : (front rest : List ℕ) → drop (length front) (front ++ rest) ≡ rest
drop_front front rest = front_rest (front ++ rest) front rest refl

-- the pair on the line is found
pub pair_found : (s name value : List ℕ) → BeginsWithTag s name value
    → first_pair s ≡ Some (record { name = length name; value = length (escaped value) })
unfolding first_pair
pair_found s name value begins =
    rw (
      begins.line ∙ line_parts name value begins.rest,
      name_ends name _ begins.name_bytes,
      fits_name (length name) begins.some_name begins.short_name,
      drop_front name _,
      to_quote value _,
      drop_front (escaped value) _,
    )

-- what was found is a pair on the line
pub record IsPairOn (s : List ℕ) (pair : PairLengths) : Type 0 where
  pub name : List ℕ
  pub value : List ℕ
  pub begins : BeginsWithTag s name value
  pub name_long : length name ≡ pair.name
  pub value_long : length (escaped value) ≡ pair.value

-- the texts that the scan went through
record Parts (s : List ℕ) (pair : PairLengths) : Type 0 where
  text : List ℕ
  quoted : List ℕ
  rest : List ℕ
  value : ℕ
  begins : text_behind (codes "[") s ≡ Some text
  fits : (nat_le 1 (name_length text) && nat_le (name_length text) 255) ≡ true
  opens : text_behind (codes " \"") (drop (name_length text) text) ≡ Some quoted
  long : value_length quoted ≡ Some value
  closes : text_behind (codes "\"]\n") (drop value quoted) ≡ Some rest
  is : record { name = name_length text; value = value } ≡ pair

parts : (s : List ℕ) (pair : PairLengths) → first_pair s ≡ Some pair → Parts s pair
unfolding first_pair
parts s pair h =
    let (text, begins) = some_of (text_behind (codes "[") s) (λ e. let g = rw e at h in cc) in
    let named_text = rw begins at h in
    let fits : (nat_le 1 (name_length text) && nat_le (name_length text) 255) ≡ true =
    true_from_ne_false _ (λ e. let g = rw e at named_text in cc) in
    let quoting = rw fits at named_text in
    let (quoted, opens) = some_of (text_behind (codes " \"") (drop (name_length text) text)) (λ e. let g = rw e at quoting in cc) in
    let valued = rw opens at quoting in
    let (value, long) = some_of (value_length quoted) (λ e. let g = rw e at valued in cc) in
    let ending = rw long at valued in
    let (rest, closes) = some_of (text_behind (codes "\"]\n") (drop value quoted)) (λ e. let g = rw e at ending in cc) in
    let found : Some (record { name = name_length text; value = value }) ≡ Some pair = rw closes at ending in
    record { text = text; quoted = quoted; rest = rest; value = value; begins = begins; fits = fits; opens = opens; long = long; closes = closes; is = cc }

pub found_is_pair : (s : List ℕ) (pair : PairLengths) → first_pair s ≡ Some pair → IsPairOn s pair
found_is_pair s pair h = of_parts (parts s pair h)
  where
    of_parts : Parts s pair → IsPairOn s pair
    of_parts p = of_named (named p.text) (closed p.quoted false p.value p.long)
      where
        both : (nat_le 1 (name_length p.text) ≡ true) × (nat_le (name_length p.text) 255 ≡ true)
        both = and_parts (nat_le 1 (name_length p.text)) (nat_le (name_length p.text) 255) p.fits

        of_named : Named p.text → Closed p.quoted p.value → IsPairOn s pair
        of_named n c =
            let closing : drop p.value p.quoted ≡ 34 ∷ c.behind =
            ap (λ (k : ℕ). drop k p.quoted) (sym c.long) ∙ front_rest p.quoted (escaped c.value) (34 ∷ c.behind) c.is in
            let opening : drop (name_length p.text) p.text ≡ n.behind =
            ap (λ (k : ℕ). drop k p.text) (sym n.long) ∙ front_rest p.text n.name n.behind n.is in
            record {
              name = n.name;
              value = c.value;
              begins =
                  record {
                    rest = p.rest;
                    line =
                        behind_is (codes "[") s p.text p.begins
                        ∙ ap (λ (t : List ℕ). 91 ∷ t)
                        (n.is
                        ∙ ap (λ (t : List ℕ). n.name ++ t)
                        (sym opening ∙ behind_is (codes " \"") _ p.quoted p.opens
                        ∙ ap (λ (t : List ℕ). 32 ∷ 34 ∷ t)
                        (c.is ∙ ap (λ (t : List ℕ). escaped c.value ++ t) (sym closing ∙ behind_is (codes "\"]\n") _ p.rest p.closes))))
                        ∙ sym (line_parts n.name c.value p.rest);
                    name_bytes = n.bytes;
                    some_name = rw n.long (leb-true 1 (name_length p.text) both.0);
                    short_name = rw n.long (leb-true (name_length p.text) 255 both.1);
                  };
              name_long = n.long ∙ ap (λ (x : PairLengths). x.name) p.is;
              value_long = c.long ∙ ap (λ (x : PairLengths). x.value) p.is;
            }

pub pair_within : (s : List ℕ) (pair : PairLengths) → first_pair s ≡ Some pair → pair.name + pair.value + 6 ≤ length s
pair_within s pair h =
    let p = found_is_pair s pair h in
    let all : length s ≡ length (tag_line p.name p.value) + length p.begins.rest =
    ap (λ (t : List ℕ). length t) p.begins.line ∙ length-append (tag_line p.name p.value) p.begins.rest in
    let line = line_long p.name p.value in
    omega (arith, all, line, p.name_long, p.value_long)

-- what `strip_prefix` says, as `text_behind` says it
pub behind_matches : (front s : List ℕ) (r : Option (Bor (List ℕ)))
    → MatchOption r ((rest : List ℕ) → s ≢ front ++ rest) (λ x. s ≡ front ++ x.now)
    → MatchOption r (text_behind front s ≡ None) (λ x. text_behind front s ≡ Some x.now)
behind_matches front s r h = grind (arith, common_steps, behind_none, behind_some)

-- ---- the result

pub not_found : (text : List ℕ) (at : ℕ) → first_pair (drop at text) ≡ None → TagResult text at no_tag
not_found text at h =
    record {
      found = λ name value begins. let e = sym h ∙ pair_found (drop at text) name value begins in absurd (cc);
      only = inl refl;
    }

-- where the parts are, by their lengths
abbrev pub tag_by : ℕ → PairLengths → PgnTag
tag_by at pair =
    record {
      status = 0;
      name_at = at + 1;
      name_length = pair.name;
      value_at = at + pair.name + 3;
      value_length = pair.value;
      next = at + pair.name + pair.value + 6;
    }

pub found_there : (text : List ℕ) (at : ℕ) (pair : PairLengths) → first_pair (drop at text) ≡ Some pair → TagResult text at (tag_by at pair)
found_there text at pair h =
    record {
      found = λ name value begins.
          let e = sym h ∙ pair_found (drop at text) name value begins in
          let same : pair ≡ record { name = length name; value = length (escaped value) } = cc in
          let line = line_long name value in
          let next : at + length name + length (escaped value) + 6 ≡ at + length (tag_line name value) = omega (arith, line) in rw same (cc);
      only = (let p = found_is_pair (drop at text) pair h in inr (p.name, p.value, p.begins));
    }

-- the bound of what the code finds
pub within_if : (s : List ℕ) (o : Option PairLengths) → o ≡ first_pair s → IfSome o (λ pair. pair.name + pair.value + 6 ≤ length s)
within_if s o h = grind (arith, common_steps, pair_within)
