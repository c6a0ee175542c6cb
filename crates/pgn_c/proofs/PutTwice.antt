-- Two texts that are copied into a buffer, one behind the other.
use Rattle.pgn_c.proofs.Words.{common_steps, ◌≡◌, ℕ, ◌+◌, ◌≤◌, Bool, true, false, List, ◌++◌, length, take, drop, sym, ap, ap₂, ◌∙◌, arith, append_assoc, length-append, length-take-le, take_at, drop_at, drop-drop, counted, PutsText, put_one, Lines}

pub put_twice : (b front word middle : List ℕ) (at : ℕ) → at + length front ≤ length b → middle ≡ take at b ++ front ++ drop (at + length front) b
    → take (at + length front) middle ++ word ++ drop (at + length front + length word) middle ≡ take at b ++ (front ++ word) ++ drop (at + length (front ++ word)) b
put_twice b front word middle at fits is =
    let head = take at b ++ front in
    let long : length head ≡ at + length front = length-append (take at b) front ∙ omega (arith, length-take-le at b (omega (arith, fits))) in
    let before : take (at + length front) middle ≡ head = ap (take (at + length front)) is ∙ take_at head (drop (at + length front) b) (at + length front) long in
    let behind : drop (at + length front) middle ≡ drop (at + length front) b = ap (drop (at + length front)) is ∙ drop_at head (drop (at + length front) b) (at + length front) long in
    let rest : drop (at + length front + length word) middle ≡ drop (at + length (front ++ word)) b =
    sym (drop-drop (length word) (at + length front) middle) ∙ ap (drop (length word)) behind ∙ drop-drop (length word) (at + length front) b
    ∙ ap (λ (n : ℕ). drop n b) (omega (arith, length-append front word)) in
    ap₂ (λ (xs ys : List ℕ). xs ++ word ++ ys) before rest
    ∙ ap (λ (xs : List ℕ). xs ++ drop (at + length (front ++ word)) b) (append_assoc (take at b) front word)

-- the lines after a text that ends one, and after one that does not
pub put_ends : (l : Lines) (n items used : ℕ) (ends : Bool) → ends ≡ true → items ≡ counted (l.items + 1) → used ≡ l.used + n
    → record { items = items; used = used; whole_items = items; whole = used } ≡ put_one l n ends
put_ends l n items used ends at_end count is = grind (arith, common_steps)

pub put_goes_on : (l : Lines) (n items used : ℕ) (ends : Bool) → ends ≡ false → items ≡ counted (l.items + 1) → used ≡ l.used + n
    → record { items = items; used = used; whole_items = l.whole_items; whole = l.whole } ≡ put_one l n ends
put_goes_on l n items used ends in_line count is = grind (arith, common_steps)

-- Both texts were put, and the lines say so.
pub puts_both : (old new : Lines) (front word b middle after : List ℕ) (ends : Bool) → old.used + (length front + length word) ≤ length b
    → middle ≡ take old.used b ++ front ++ drop (old.used + length front) b
    → after ≡ take (old.used + length front) middle ++ word ++ drop (old.used + length front + length word) middle
    → new ≡ put_one old (length (front ++ word)) ends → PutsText old new (front ++ word) ends b after true
puts_both old new front word b middle after ends fits first second is = grind (arith, common_steps, length-append, put_twice)
