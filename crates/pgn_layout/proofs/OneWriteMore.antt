-- One write after another.
use Rattle.pgn_layout.proofs.Words.{common_steps, ◌≡◌, ℕ, ◌+◌, ◌-◌, ◌<◌, List, [], ◌∷◌, ◌++◌, length, take, drop, Option, Result, Ok, Err, length-append, arith, take-add, take-append-add, take-append-le, take_rest, Appends, ended}
use Rattle.std.proofs.KnownBytes.{Appends-trans}
use Rattle.pgn_layout.specs.Device.{AppendsFront, Writes}

-- what was appended, and then the front of `&all[i..]`
pub appends_more : (a b c : Option (List ℕ)) (all : List ℕ) (i n : ℕ) → Appends a b (take i all)
    → Appends b c (take n (take (length all - i) (drop i all))) → Appends a c (take (i + n) all)
appends_more a b c all i n done more = grind (arith, common_steps, take_rest, take-add)

-- a front of a text is one of a longer text
pub front_of_more : (a b : Option (List ℕ)) (text more : List ℕ) → AppendsFront a b text → AppendsFront a b (text ++ more)
front_of_more a b text more front = grind (arith, common_steps, length-append, take-append-le)

-- the whole of one text, and then a front of the next
pub front_after : (a b c : Option (List ℕ)) (text more : List ℕ) → Appends a b text → AppendsFront b c more
    → AppendsFront a c (text ++ more)
front_after a b c text more done (n, within, front) = (
  length text + n,
  omega (arith, length-append text more),
  rw (take-append-add text more n) (Appends-trans a b c _ _ done front),
)

-- one text, and then another
pub Writes-append : {A E : Type 0} (a b c : Option (List ℕ)) (text more : List ℕ) (r : Result A E) → Appends a b text → Writes b c r more
    → Writes a c r (text ++ more)
Writes-append a b c text more (Ok x) done next = Appends-trans a b c _ _ done next
Writes-append a b c text more (Err e) done next = front_after a b c text more done next

-- a line that holds something goes out with LF
pub ended_line : (line : List ℕ) → 0 < length line → ended line ≡ line ++ 10 ∷ []
ended_line line h1 = grind (arith, common_steps)
