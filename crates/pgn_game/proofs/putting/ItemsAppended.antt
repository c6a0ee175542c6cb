-- Movetext of more items: its tokens, and the lines that are full.
use Rattle.pgn_game.proofs.Words.{◌≡◌, ℕ, ◌<◌, Bool, true, false, List, [], ◌∷◌, ◌++◌, length, refl, ap, ◌∙◌, append_assoc, append-nil, length-append, arith, All, fold, filter-append, All-nil, All-cons, All-head, All-tail, IsToken, has_room, lines_from, lines_of, full_lines, last_line, text_of as text_of_lines, Put, EndGame, ended, text_put, line_put, text_at, line_at, Parts, Mode, Item, Levels, levels_after, levels_of, first_level, Placed, placed_from, is_move, written_items, tokens_at, tokens_from, tokens_out, full_text, ends_in_move, IsPrefix, rules}
use Rattle.std.proofs.lemmas.List.Elements.{All-append}
use Rattle.pgn_layout.proofs.PutsInTurn.{full_lines-cons, last_line-cons}

-- Lines.
full_lines-append : (xs : List (List ℕ)) (t : List ℕ) (ts : List (List ℕ))
    → full_lines (xs ++ lines_from t ts) ≡ xs ++ full_lines (lines_from t ts)
full_lines-append [] t ts = refl
full_lines-append (x ∷ []) t ts = full_lines-cons x t ts
full_lines-append (x ∷ y ∷ ys) t ts = cc (full_lines-append (y ∷ ys) t ts)

last_line-append : (xs : List (List ℕ)) (t : List ℕ) (ts : List (List ℕ)) → last_line (xs ++ lines_from t ts) ≡ last_line (lines_from t ts)
last_line-append [] t ts = refl
last_line-append (x ∷ []) t ts = last_line-cons x t ts
last_line-append (x ∷ y ∷ ys) t ts = last_line-append (y ∷ ys) t ts

-- the lines of more tokens go on from the last line
lines_from-append : (line : List ℕ) (ts us : List (List ℕ))
    → lines_from line (ts ++ us) ≡ full_lines (lines_from line ts) ++ lines_from (last_line (lines_from line ts)) us
lines_from-append line [] us = refl
lines_from-append line (t ∷ ts) us =
    elim (has_room line t)
    as (λ v. elim v [ true ↦ lines_from (line ++ 32 ∷ t) (ts ++ us) | false ↦ line ∷ lines_from t (ts ++ us) ]
    ≡ full_lines (elim v [ true ↦ lines_from (line ++ 32 ∷ t) ts | false ↦ line ∷ lines_from t ts ])
    ++ lines_from (last_line (elim v [ true ↦ lines_from (line ++ 32 ∷ t) ts | false ↦ line ∷ lines_from t ts ])) us) [
      | true ↦ lines_from-append (line ++ 32 ∷ t) ts us
      | false ↦ cc (lines_from-append t ts us, full_lines-cons line t ts, last_line-cons line t ts)
    ]

text_of_lines-append : (xs ys : List (List ℕ)) → text_of_lines (xs ++ ys) ≡ text_of_lines xs ++ text_of_lines ys
text_of_lines-append [] ys = refl
text_of_lines-append (x ∷ xs) ys = cc (text_of_lines-append xs ys, append_assoc (x ++ 10 ∷ []) (text_of_lines xs) (text_of_lines ys))

-- more tokens keep the lines that are full
full_lines-grow : (ts us : List (List ℕ)) → IsPrefix (text_of_lines (full_lines (lines_of ts))) (text_of_lines (full_lines (lines_of (ts ++ us))))
full_lines-grow [] us = (text_of_lines _, refl)
full_lines-grow (t ∷ ts) us =
    let full = full_lines _ in
    let last = last_line (lines_from t ts) in (
      text_of_lines (full_lines _),
      ap (λ ls. text_of_lines (full_lines ls)) (lines_from-append t ts us) ∙ ap text_of_lines (full_lines-append full last us)
          ∙ text_of_lines-append full (full_lines _),
    )

-- and the text of all lines begins with that of those
full_lines-front : (ls : List (List ℕ)) → IsPrefix (text_of_lines (full_lines ls)) (text_of_lines ls)
full_lines-front [] = ([], refl)
full_lines-front (l ∷ []) = (text_of_lines (l ∷ []), refl)
full_lines-front (l ∷ m ∷ ls) =
    let rest = full_lines-front (m ∷ ls) in search (rules, append_assoc)

-- Items.
pub placed-append : (start : Parts) (ls : Levels) (xs ys : List Item)
    → placed_from start ls (xs ++ ys) ≡ placed_from start ls xs ++ placed_from start (fold levels_after ls xs) ys
placed-append start ls [] ys = refl
placed-append start ls (x ∷ xs) ys = cc (placed-append start (levels_after ls x) xs ys)

written-append : (mode : Mode) (xs ys : List Placed) → written_items mode (xs ++ ys) ≡ written_items mode xs ++ written_items mode ys
written-append mode xs ys = search (rules, filter-append)

pub tokens_from-append : (b : Bool) (xs ys : List Placed) → tokens_from b (xs ++ ys) ≡ tokens_from b xs ++ tokens_from (ends_in_move b xs) ys
tokens_from-append b [] ys = refl
tokens_from-append b (x ∷ xs) ys =
    cc (
      tokens_from-append (is_move x.item) xs ys,
      append_assoc (tokens_at b x.position x.item) (tokens_from (is_move x.item) xs) (tokens_from (ends_in_move (is_move x.item) xs) ys),
    )

-- the items that are written of a game that begins there, and of those that follow them
abbrev pub written_from_start : Mode → Parts → List Item → List Placed
written_from_start mode start items = written_items mode (placed_from start first_level items)

abbrev pub written_behind : Mode → Parts → List Item → List Item → List Placed
written_behind mode start items more = written_items mode (placed_from start (levels_of items) more)

pub written_more : (mode : Mode) (start : Parts) (items more : List Item)
    → written_from_start mode start (items ++ more) ≡ written_from_start mode start items ++ written_behind mode start items more
written_more mode start items more = grind (arith, placed-append, written-append)

-- the tokens that they add
abbrev pub tokens_behind : Mode → Parts → List Item → List Item → List (List ℕ)
tokens_behind mode start items more = tokens_from (ends_in_move false (written_from_start mode start items)) (written_behind mode start items more)

module _ (mode : Mode) (start : Parts) (items : List Item) where
  pub tokens_more : (more : List Item) → tokens_out mode start (items ++ more) ≡ tokens_out mode start items ++ tokens_behind mode start items more
  tokens_more more = grind (arith, tokens_from-append, written_more)

  -- What stands on full lines stays there when more items come.
  pub full_text_grows : (more : List Item) → IsPrefix (full_text mode start items) (full_text mode start (items ++ more))
  full_text_grows more =
      rw (tokens_more more)
      (full_lines-grow (tokens_out mode start items) (tokens_behind mode start items more))

  -- So it does when the marker comes and the game ends.
  pub full_text_marker : (marker : List ℕ) → IsPrefix (full_text mode start items)
      (text_of_lines (lines_of (tokens_out mode start items ++ marker ∷ [])) ++ 10 ∷ [])
  full_text_marker marker =
      let ts = tokens_out mode start items in
      let full = full_lines-grow ts (marker ∷ []) in
      let all = full_lines-front (lines_of (ts ++ marker ∷ [])) in (
        full.0 ++ (all.0 ++ 10 ∷ []),
        ap (λ l. l ++ 10 ∷ []) (all.1 ∙ ap (λ l. l ++ all.0) full.1 ∙ append_assoc _ _ all.0)
            ∙ append_assoc (full_text mode start items) (full.0 ++ all.0) (10 ∷ [])
            ∙ ap (λ l. full_text mode start items ++ l) (append_assoc _ all.0 _),
      )

-- Tokens that are put.
still_not_empty : (line : List ℕ) (ts : List (List ℕ)) → 0 < length line → All IsToken ts → 0 < length (last_line (lines_from line ts))
still_not_empty line [] some each = some
still_not_empty line (t ∷ ts) some each =
    elim (has_room line t) as (λ v.
    0 < length (last_line (elim v [ true ↦ lines_from (line ++ 32 ∷ t) ts | false ↦ line ∷ lines_from t ts ]))) [
      | true ↦ still_not_empty (line ++ 32 ∷ t) ts (omega (arith, length-append line (32 ∷ t))) (All-tail IsToken t ts each)
      | false ↦ (rw (last_line-cons line t ts) (still_not_empty t ts (All-head IsToken t ts each).not_empty (All-tail IsToken t ts each)))
    ]

-- one token put on a line that holds one
put_full : (line t : List ℕ) → 0 < length line → text_of_lines (full_lines (lines_from line (t ∷ []))) ≡ text_put line t
put_full line t some = grind (arith, append-nil, text_of_lines)

put_last : (line t : List ℕ) → 0 < length line → last_line (lines_from line (t ∷ [])) ≡ line_put line t
put_last line t some = grind arith

-- What goes out for one token more, and the line that is held after it.
pub full_lines_put : (ts : List (List ℕ)) (t : List ℕ) → All IsToken ts
    → text_of_lines (full_lines (lines_of (ts ++ t ∷ []))) ≡ text_of_lines (full_lines (lines_of ts)) ++ text_put (last_line (lines_of ts)) t
full_lines_put [] t each = refl
full_lines_put (x ∷ xs) t each =
    let full = full_lines (lines_from x xs) in
    let last = last_line (lines_from x xs) in
    let some = still_not_empty x xs (All-head IsToken x xs each).not_empty (All-tail IsToken x xs each) in
    rw (lines_from-append x xs _) (ap text_of_lines (full_lines-append full last (t ∷ []))
    ∙ text_of_lines-append full (full_lines _) ∙ ap (λ l. text_of_lines full ++ l) (put_full last t some))

pub last_line_put : (ts : List (List ℕ)) (t : List ℕ) → All IsToken ts
    → last_line (lines_of (ts ++ t ∷ [])) ≡ line_put (last_line (lines_of ts)) t
last_line_put [] t each = refl
last_line_put (x ∷ xs) t each =
    let last = last_line (lines_from x xs) in
    let some = still_not_empty x xs (All-head IsToken x xs each).not_empty (All-tail IsToken x xs each) in
    cc (lines_from-append x xs _, last_line-append (full_lines (lines_from x xs)) last (t ∷ []), put_last last t some)

-- the lines are those that are full, and the last
lines_ended : (ls : List (List ℕ)) → 0 < length (last_line ls) → text_of_lines ls ≡ text_of_lines (full_lines ls) ++ ended (last_line ls)
lines_ended [] some = absurd (omega arith)
lines_ended ([] ∷ []) some = absurd (omega arith)
lines_ended ((b ∷ bs) ∷ []) some = append-nil _
lines_ended (l ∷ m ∷ ls) some =
    cc (lines_ended (m ∷ ls) some, append_assoc (l ++ 10 ∷ []) (text_of_lines (full_lines (m ∷ ls))) (ended (last_line (m ∷ ls))))

held_not_empty : (ts : List (List ℕ)) (m : List ℕ) → All IsToken ts → IsToken m → 0 < length (last_line (lines_of (ts ++ m ∷ [])))
held_not_empty [] m each token = token.not_empty
held_not_empty (x ∷ xs) m each token =
    still_not_empty x _ (All-head IsToken x xs each).not_empty
    (All-append IsToken xs _ (All-tail IsToken x xs each) (All-cons IsToken m [] token (All-nil IsToken)))

-- What the marker and the end of the game write behind the lines that are full.
pub game_ends : (ts : List (List ℕ)) (m : List ℕ) → All IsToken ts → IsToken m → text_of_lines (lines_of (ts ++ m ∷ [])) ++ 10 ∷ []
    ≡ text_of_lines (full_lines (lines_of ts)) ++ text_at (last_line (lines_of ts)) (Put m)
    ++ text_at (line_at (last_line (lines_of ts)) (Put m)) EndGame
game_ends ts m each token = grind (arith, append_assoc, text_of_lines, full_lines_put, last_line_put, lines_ended, held_not_empty)
