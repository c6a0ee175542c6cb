-- The tag that the code finds at the front of a line, byte by byte, is the one that the line has.
use Rattle.std.proofs.Common.{rules}
use Rattle.pgn_sections.proofs.Words.{and-false, and-true, ◌≡◌, ℕ, ◌+◌, ◌-◌, Bool, true, false, List, [], ◌∷◌, Option, None, Some, length, drop, take, refl, sym, ◌∙◌, ap, ap₂, subst, arith, true≢false, common_steps, ◌&&◌, ◌==◌, suc, zero, nat_le, is_some, bytes_eq, codes, if◌then◌else◌, option_and_then, is_space, has_mark, behind_byte, behind_space, is_name_byte, is_stray, name_length, bytes_before_bracket, has_quoted_value, is_at_bracket, is_event, mark_after, one_more, tag_begin, tag_line, tag_line_behind, at_front, is_event_name, is_front, is_marked_after, name_with, no_tag_read, tag_after, tag_found, tag_of, tag_with, TagLine, TagSearch}
use Rattle.pgn_sections.proofs.Fronts.{drop_more, drop_none, name_more, name_none, space_more, space_none, take_more, take_none}
use Rattle.pgn_sections.specs.TagProgress as spec
use Rattle.pgn_sections.specs.declared.tag_line.EventName.{EventName}
use Rattle.pgn_sections.specs.declared.tag_line.EventName.TheVariants.{Empty, E, Ev, Eve, Even, Event, Other}
use Rattle.pgn_sections.specs.declared.tag_line.MarkProgress.{MarkProgress}
use Rattle.pgn_sections.specs.declared.tag_line.MarkProgress.TheVariants.{Outside, BehindFirst, BehindSecond}
use Rattle.pgn_sections.specs.declared.tag_line.TagProgress.{TagProgress}
use Rattle.pgn_sections.specs.declared.tag_line.TagProgress.TheVariants.{Front, BehindBracket, InName, BehindName, Quoted, Unquoted, Missing}

-- The name. What is left of Event, and none.

abbrev letters_left : EventName → List ℕ
letters_left Empty = codes "Event"
letters_left E = codes "vent"
letters_left Ev = codes "ent"
letters_left Eve = codes "nt"
letters_left Even = codes "t"
letters_left Event = []
letters_left Other = []

abbrev can_be_event : EventName → Bool
can_be_event Empty = true
can_be_event E = true
can_be_event Ev = true
can_be_event Eve = true
can_be_event Even = true
can_be_event Event = true
can_be_event Other = false

abbrev name_over : EventName → List ℕ → EventName
name_over e [] = e
name_over e (b ∷ s) = name_over (name_with e b) s

abbrev is_rest_of_event : EventName → List ℕ → Bool
is_rest_of_event e w = can_be_event e && bytes_eq w (letters_left e)

if_letter : (t : Bool) (e : EventName) (w : List ℕ)
    → is_rest_of_event (if t then e else Other) w ≡ (t && is_rest_of_event e w)
if_letter t e w = grind (arith, common_steps)

letter : (e : EventName) (b : ℕ) (w : List ℕ) → is_rest_of_event (name_with e b) w ≡ is_rest_of_event e (b ∷ w)
letter e b w = grind (arith, common_steps, if_letter)

no_letter : (e : EventName) → is_event_name e ≡ is_rest_of_event e []
no_letter e = grind (arith, common_steps)

name_is : (e : EventName) (w : List ℕ) → is_event_name (name_over e w) ≡ is_rest_of_event e w
name_is e [] = no_letter e
name_is e (b ∷ w) = name_is (name_with e b) w ∙ letter e b w

-- The tag of which this is read, with this text behind it. It begins at a place.

abbrev tag_if : ℕ → Bool → Bool → Option TagLine
tag_if n is_quoted is_event = Some (record { at = n; is_quoted = is_quoted; is_event = is_quoted && is_event })

abbrev has_quote : List ℕ → Bool
has_quote s = is_some (behind_byte 34 (behind_space s))

abbrev tag_behind : ℕ → TagProgress → List ℕ → Option TagLine
tag_behind n (Front m) s = None
tag_behind n BehindBracket s = tag_line_behind n (behind_space s)
tag_behind n (InName e) s = tag_if n (has_quote (drop (name_length s) s)) (is_event_name (name_over e (take (name_length s) s)))
tag_behind n (BehindName e) s = tag_if n (has_quote s) (is_event_name e)
tag_behind n (Quoted e) s = Some (record { at = n; is_quoted = true; is_event = is_event_name e })
tag_behind n Unquoted s = Some (record { at = n; is_quoted = false; is_event = false })
tag_behind n Missing s = None

-- one byte of each part

at_quote : (n : ℕ) (e : EventName) (t : Bool) (s : List ℕ)
    → tag_if n (is_some {T = List ℕ} (if t then Some s else None)) (is_event_name e) ≡ tag_behind n (if t then Quoted e else Unquoted) s
at_quote n e t s = grind (arith, common_steps)

behind_a_name : (n : ℕ) (e : EventName) (t : Bool) (b : ℕ) (s : List ℕ) → is_space b ≡ t
    → tag_if n (has_quote (b ∷ s)) (is_event_name e) ≡ tag_behind n (if t then BehindName e else if b == 34 then Quoted e else Unquoted) s
behind_a_name n e t b s h = grind (arith, common_steps, is_some, space_more, space_none, at_quote)

in_a_name : (n : ℕ) (e : EventName) (t : Bool) (b : ℕ) (s : List ℕ) → is_name_byte b ≡ t
    → tag_behind n (InName e) (b ∷ s) ≡ tag_behind n (if t then InName (name_with e b) else spec.behind_name e b) s
in_a_name n e true b s h = search (rules, drop_more, take_more)
in_a_name n e false b s h = grind (arith, common_steps, drop_none, take_none, behind_a_name)

-- the byte behind a bracket and white space: a percent sign, the first of a name, or another one
at_name : (n : ℕ) (t u : Bool) (b : ℕ) (s : List ℕ) → is_name_byte b ≡ u
    → (if t then None else Some (record { at = n; is_quoted = has_quoted_value (b ∷ s); is_event = is_event (b ∷ s) }))
    ≡ tag_behind n (if t then Missing else if u then InName (name_with Empty b) else Unquoted) s
at_name n true u b s h = refl
at_name n false true b s h =
    let quoted : has_quoted_value (b ∷ s) ≡ has_quote (drop (name_length s) s) =
    ap (λ (o : Option (List ℕ)). is_some (option_and_then (λ rest. behind_byte 34 (behind_space rest)) o)) (name_more b s h) in
    let event : bytes_eq (take (name_length (b ∷ s)) (b ∷ s)) (codes "Event") ≡ is_event_name (name_over (name_with Empty b) (take (name_length s) s)) =
    ap (λ (w : List ℕ). bytes_eq w (codes "Event")) (take_more is_name_byte b s h) ∙ sym (name_is Empty (b ∷ take (name_length s) s)) in
    ap₂ (λ (q e : Bool). tag_if n q e) quoted event
at_name n false false b s h = grind (arith, common_steps, is_some, name_none, take, codes)

behind_a_bracket : (n : ℕ) (t : Bool) (b : ℕ) (s : List ℕ) → is_space b ≡ t
    → tag_line_behind n (behind_space (b ∷ s))
    ≡ tag_behind n (if t then BehindBracket else if b == 37 then Missing else if is_name_byte b then InName (name_with Empty b) else Unquoted) s
behind_a_bracket n t b s h = grind (arith, common_steps, space_more, space_none, at_name)

one_byte : (n : ℕ) (x : TagProgress) (b : ℕ) (s : List ℕ) → is_front x ≡ false → tag_behind n x (b ∷ s) ≡ tag_behind n (tag_after x b) s
one_byte n x b s h = grind (arith, common_steps, true≢false, behind_a_bracket, in_a_name, behind_a_name)

no_byte : (n : ℕ) (x : TagProgress) → tag_of x n ≡ tag_behind n x []
no_byte n x = grind (arith, common_steps)

abbrev IsBehind : TagProgress → Type 0
IsBehind x = is_front x ≡ false

one_of_two : (t : Bool) (x y : TagProgress) → IsBehind x → IsBehind y → IsBehind (if t then x else y)
one_of_two t x y h k = grind (arith, common_steps)

one_of_three : (t u : Bool) (x y z : TagProgress) → IsBehind x → IsBehind y → IsBehind z → IsBehind (if t then x else if u then y else z)
one_of_three t u x y z h k l = grind (arith, common_steps)

stays_behind : (x : TagProgress) (b : ℕ) → is_front x ≡ false → IsBehind (tag_after x b)
stays_behind x b h = grind (arith, common_steps, true≢false, one_of_three, one_of_two)

abbrev search_of : TagProgress → ℕ → Bool → TagSearch
search_of x n is_marked = record { progress = x; at = n; is_marked = is_marked }

keeps_place : (x : TagProgress) (n : ℕ) (k : Bool) (i b : ℕ) → is_front x ≡ false → tag_with (search_of x n k) i b ≡ search_of (tag_after x b) n k
keeps_place x n k i b h = grind (arith, common_steps, true≢false)

-- with the bytes of a text, so many of the line before it
abbrev pub tag_over : TagSearch → ℕ → List ℕ → TagSearch
tag_over t i [] = t
tag_over t i (b ∷ s) = tag_over (tag_with t i b) (i + 1) s

-- What is found in a line: the tag, and whether a byte order mark is where it begins.
pub record Finds (t : TagSearch) (o : Option TagLine) (line : List ℕ) : Type 0 where
  pub tag : tag_found t ≡ o
  pub mark : (tag : TagLine) → tag_found t ≡ Some tag → t.is_marked ≡ has_mark (drop tag.at line)

abbrev begin_at : ℕ → Bool → ℕ
begin_at n k = if k then n - 3 else n

place_of_tag : (x : TagProgress) (n : ℕ) (tag : TagLine) → tag_of x n ≡ Some tag → tag.at ≡ n
place_of_tag x n tag e = grind (arith, common_steps)

-- behind the bracket, or without one
finds_behind : (x : TagProgress) (n : ℕ) (k : Bool) (i : ℕ) (s line : List ℕ) → is_front x ≡ false → k ≡ has_mark (drop (begin_at n k) line)
    → Finds (tag_over (search_of x n k) i s) (tag_behind (begin_at n k) x s) line
finds_behind x n k i [] line h e = grind (arith, common_steps, no_byte, place_of_tag)
finds_behind x n k i (b ∷ s) line h e = grind (arith, common_steps, keeps_place, one_byte, stays_behind, (finds_behind (tag_after x b) n k (i + 1) s line (stays_behind x b h) e))

-- Before the bracket. The bytes so far are listed from the last one on.

abbrev onto : List ℕ → List ℕ → List ℕ
onto [] s = s
onto (b ∷ r) s = onto r (b ∷ s)

drop_last : (n : ℕ) (line : List ℕ) (b : ℕ) (s : List ℕ) → drop n line ≡ b ∷ s → drop (suc n) line ≡ s
drop_last zero line b s e = ap (λ (v : List ℕ). drop 1 v) e
drop_last (suc n) [] b s e = absurd cc
drop_last (suc n) (c ∷ line) b s e = drop_last n line b s e

drop_onto : (r s : List ℕ) → drop (length r) (onto r s) ≡ s
drop_onto [] s = refl
drop_onto (b ∷ r) s = drop_last (length r) (onto r (b ∷ s)) b s (drop_onto r (b ∷ s))

-- whether a mark is just before
abbrev is_behind_mark : List ℕ → Bool
is_behind_mark [] = false
is_behind_mark (c ∷ []) = false
is_behind_mark (c ∷ b ∷ []) = false
is_behind_mark (c ∷ b ∷ a ∷ r) = (a == 239) && (b == 187) && (c == 191)

abbrev AreRead : MarkProgress → Bool → List ℕ → Type 0
AreRead Outside k r = k ≡ is_behind_mark r
AreRead BehindFirst k r = (u : List ℕ) × (r ≡ 239 ∷ u)
AreRead BehindSecond k r = (u : List ℕ) × (r ≡ 187 ∷ 239 ∷ u)

no_mark_behind : (b : ℕ) (r : List ℕ) → (b == 191) ≡ false → is_behind_mark (b ∷ r) ≡ false
no_mark_behind b r h = grind (arith, common_steps)

stray_ends_none : (b : ℕ) → is_stray b ≡ true → ((b == 191) ≡ false) × ((b == 91) ≡ false)
stray_ends_none b h = grind (arith, common_steps)

read_stray : (k : Bool) (b : ℕ) (r : List ℕ) → is_stray b ≡ true → (k && (b == 91)) ≡ is_behind_mark (b ∷ r)
read_stray k b r h = rw (stray_ends_none b h).1 (and-false k) ∙ sym (no_mark_behind b r (stray_ends_none b h).0)

read_first : (k : Bool) (b : ℕ) (r : List ℕ) (n : MarkProgress) (t u : Bool) → is_stray b ≡ t → (b == 239) ≡ u
    → (if t then Some Outside else if u then Some BehindFirst else None) ≡ Some n → AreRead n (k && (b == 91)) (b ∷ r)
read_first k b r n t u h e found = grind (arith, common_steps, read_stray)

read_second : (b : ℕ) (r : List ℕ) (n : MarkProgress) (k t : Bool) → (b == 187) ≡ t → (u : List ℕ) × (r ≡ 239 ∷ u)
    → (if t then Some BehindSecond else None) ≡ Some n → AreRead n k (b ∷ r)
read_second b r n k t h e found = grind (arith, common_steps)

read_third : (b : ℕ) (r : List ℕ) (n : MarkProgress) (t : Bool) → (b == 191) ≡ t → (u : List ℕ) × (r ≡ 187 ∷ 239 ∷ u)
    → (if t then Some Outside else None) ≡ Some n → AreRead n (b == 191) (b ∷ r)
read_third b r n t h e found = grind (arith, common_steps)

-- one byte of what is stray, or of marks
read_more : (m : MarkProgress) (k : Bool) (b : ℕ) (r : List ℕ) (n : MarkProgress) → mark_after m b ≡ Some n → AreRead m k r
    → AreRead n (is_marked_after m k b) (b ∷ r)
read_more m k b r n found e = grind (arith, common_steps, read_first, read_second, read_third)

-- at the bracket

begin_is : (r s : List ℕ) → tag_begin (length r) (onto r s) ≡ begin_at (length r) (is_behind_mark r)
begin_is [] s = refl
begin_is (c ∷ []) s = refl
begin_is (c ∷ b ∷ []) s = refl
begin_is (c ∷ b ∷ a ∷ r) s =
    let n : length (c ∷ b ∷ a ∷ r) - 3 ≡ length r = omega arith in
    let long : nat_le 3 (length (c ∷ b ∷ a ∷ r)) ≡ true = grind (arith, common_steps) in
    let there = ap (λ (k : ℕ). drop k (onto r (a ∷ b ∷ c ∷ s))) n ∙ drop_onto r (a ∷ b ∷ c ∷ s) in
    ap₂ (λ (t : Bool) (v : List ℕ). if t && has_mark v then length (c ∷ b ∷ a ∷ r) - 3 else length (c ∷ b ∷ a ∷ r)) long there

no_mark : (b : ℕ) (s : List ℕ) → (b == 239) ≡ false → has_mark (b ∷ s) ≡ false
no_mark b s h = grind (arith, common_steps)

mark_there : (r s : List ℕ) (b : ℕ) (t : Bool) → is_behind_mark r ≡ t → (b == 239) ≡ false
    → t ≡ has_mark (drop (begin_at (length r) t) (onto r (b ∷ s)))
mark_there r s b false h e = sym (ap (λ (v : List ℕ). has_mark v) (drop_onto r (b ∷ s)) ∙ no_mark b s e)
mark_there [] s b true h e = absurd (true≢false (sym h))
mark_there (c ∷ []) s b true h e = absurd (true≢false (sym h))
mark_there (c ∷ d ∷ []) s b true h e = absurd (true≢false (sym h))
mark_there (c ∷ d ∷ a ∷ r) s b true h e =
    let n : length (c ∷ d ∷ a ∷ r) - 3 ≡ length r = omega arith in
    sym (ap (λ (k : ℕ). has_mark (drop k (onto r (a ∷ d ∷ c ∷ b ∷ s)))) n ∙ ap (λ (v : List ℕ). has_mark v) (drop_onto r (a ∷ d ∷ c ∷ b ∷ s)) ∙ h)

abbrev counted_from : ℕ → Option ℕ → Option ℕ
counted_from n None = None
counted_from n (Some m) = Some (n + m)

abbrev found_in : Option ℕ → List ℕ → Option TagLine
found_in o line = option_and_then (λ n. tag_line_behind (tag_begin n line) (behind_space (drop (n + 1) line))) o

counted_more : (b : ℕ) (r : List ℕ) (o : Option ℕ) → counted_from (length (b ∷ r)) o ≡ counted_from (length r) (one_more o)
counted_more b r o = grind (arith, common_steps, length)

finds_none : (n : ℕ) (k : Bool) (i : ℕ) (s line : List ℕ) → Finds (tag_over (search_of Missing n k) i s) None line
finds_none n k i [] line = record { tag = refl; mark = λ tag found. absurd cc }
finds_none n k i (b ∷ s) line = finds_none n k (i + 1) s line

at_bracket : (k : Bool) (r s : List ℕ) (b i : ℕ) → k ≡ is_behind_mark r → (b == 91) ≡ true → i ≡ length r
    → Finds (tag_over (search_of BehindBracket i (k && (b == 91))) (i + 1) s) (found_in (Some (length r + 0)) (onto r (b ∷ s))) (onto r (b ∷ s))
at_bracket k r s b i e h n =
    let is_marked : (k && (b == 91)) ≡ is_behind_mark r = ap (λ (t : Bool). k && t) h ∙ and-true k ∙ e in
    let other : (b == 239) ≡ false = grind (arith, common_steps) in
    let goes = finds_behind BehindBracket (length r) (is_behind_mark r) (length r + 1) s (onto r (b ∷ s)) refl (mark_there r s b (is_behind_mark r) refl other) in
    let rest : drop (length r + 0 + 1) (onto r (b ∷ s)) ≡ s =
    (let j : length r + 0 + 1 ≡ length (b ∷ r) = omega arith in ap (λ (j : ℕ). drop j (onto r (b ∷ s))) j ∙ drop_onto (b ∷ r) s) in
    let begins : tag_begin (length r + 0) (onto r (b ∷ s)) ≡ begin_at (length r) (is_behind_mark r) =
    (let j : length r + 0 ≡ length r = omega arith in ap (λ (j : ℕ). tag_begin j (onto r (b ∷ s))) j ∙ begin_is r (b ∷ s)) in
    let found : tag_behind (begin_at (length r) (is_behind_mark r)) BehindBracket s ≡ found_in (Some (length r + 0)) (onto r (b ∷ s)) =
    sym (ap₂ (λ (j : ℕ) (v : List ℕ). tag_line_behind j (behind_space v)) begins rest) in
    subst (λ (t : Bool). Finds (tag_over (search_of BehindBracket i t) (i + 1) s) (found_in (Some (length r + 0)) (onto r (b ∷ s))) (onto r (b ∷ s))) (sym is_marked)
    (subst (λ (j : ℕ). Finds (tag_over (search_of BehindBracket j (is_behind_mark r)) (j + 1) s) (found_in (Some (length r + 0)) (onto r (b ∷ s))) (onto r (b ∷ s))) (sym n)
    (subst (λ (o : Option TagLine). Finds (tag_over (search_of BehindBracket (length r) (is_behind_mark r)) (length r + 1) s) o (onto r (b ∷ s))) found goes))

-- the first byte that is neither stray nor of a mark
at_other : (m : MarkProgress) (k : Bool) (r s : List ℕ) (b i : ℕ) (t : Bool) → AreRead m k r → is_at_bracket m b ≡ t → i ≡ length r
    → Finds (tag_over (search_of (if t then BehindBracket else Missing) i (is_marked_after m k b)) (i + 1) s)
    (found_in (counted_from (length r) (if t then Some 0 else None)) (onto r (b ∷ s))) (onto r (b ∷ s))
at_other Outside k r s b i true e h n = at_bracket k r s b i e h n
at_other BehindFirst k r s b i true e h n = absurd (true≢false (sym h))
at_other BehindSecond k r s b i true e h n = absurd (true≢false (sym h))
at_other m k r s b i false e h n = finds_none i (is_marked_after m k b) (i + 1) s (onto r (b ∷ s))

tag_from : (m : MarkProgress) (n : ℕ) (k : Bool) (r s : List ℕ) (i : ℕ) → AreRead m k r → i ≡ length r
    → Finds (tag_over (search_of (Front m) n k) i s) (found_in (counted_from (length r) (bytes_before_bracket m s)) (onto r s)) (onto r s)
tag_from m n k r [] i e h = record { tag = refl; mark = λ tag found. absurd cc }
tag_from m n k r (b ∷ s) i e h = by_mark (mark_after m b) refl (λ next. tag_from next i (is_marked_after m k b) (b ∷ r) s (i + 1)) where
  by_mark : (o : Option MarkProgress) → mark_after m b ≡ o
      → ((next : MarkProgress) → AreRead next (is_marked_after m k b) (b ∷ r) → i + 1 ≡ length (b ∷ r)
      → Finds (tag_over (search_of (Front next) i (is_marked_after m k b)) (i + 1) s)
      (found_in (counted_from (length (b ∷ r)) (bytes_before_bracket next s)) (onto r (b ∷ s))) (onto r (b ∷ s)))
      → Finds (tag_over (search_of (at_front m b o) i (is_marked_after m k b)) (i + 1) s)
      (found_in (counted_from (length r) (elim o [ None ↦ if is_at_bracket m b then Some 0 else None | Some n ↦ one_more (bytes_before_bracket n s) ])) (onto r (b ∷ s)))
      (onto r (b ∷ s))
  by_mark None found more = at_other m k r s b i (is_at_bracket m b) e refl h
  by_mark (Some next) found more =
      let j : i + 1 ≡ length (b ∷ r) = omega arith in
      subst (λ (o : Option ℕ). Finds (tag_over (search_of (Front next) i (is_marked_after m k b)) (i + 1) s) (found_in o (onto r (b ∷ s))) (onto r (b ∷ s)))
      (counted_more b r (bytes_before_bracket next s))
      (more next (read_more m k b r next found e) j)

counted_from_0 : (o : Option ℕ) → counted_from 0 o ≡ o
counted_from_0 o = grind (arith, common_steps)

-- a whole line
pub finds_tag : (line : List ℕ) → Finds (tag_over no_tag_read 0 line) (tag_line line) line
finds_tag line =
    subst (λ (o : Option ℕ). Finds (tag_over no_tag_read 0 line) (found_in o line) line) (counted_from_0 (bytes_before_bracket Outside line))
    (tag_from Outside 0 false [] line 0 refl refl)
