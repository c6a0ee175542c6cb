-- What an item adds to the movetext that is held.
use Rattle.pgn_game.proofs.Words.{◌≡◌, ℕ, ◌+◌, ◌<◌, ◌≤◌, Bool, true, false, List, [], ◌∷◌, ◌++◌, map, length, Option, None, Some, refl, sym, ap, subst, ◌∙◌, append_assoc, append-nil, arith, All, ◌==◌, Result, Ok, Err, IsErr, Appends, All-nil, All-cons, All-head, All-tail, length-map, drop-append_seam, Move, legal, Device, IsToken, lines_of, full_lines, last_line, text_of as text_of_lines, Put, laid_from, text_put, line_put, Parts, Mode, play, text_of_move, Item, open_variation, close_variation, Level as ModelLevel, Levels as ModelLevels, levels_after, levels_of, depth, here, outermost, main_moves, Placed, is_move, tokens_out, StoredLevels, Movetext, level_at, ClosesLevel, stored_level, stored_levels, ends_in_move, HoldsItems, HoldsLineOf, is_nothing, mode_of_written, IsSomeAnd, Event, LeadsLevels, items_meant, not, ◌&&◌, token_if, tokens_at, writes_annotations, PutsTokens, Annotates, Plays, is_written, tokens_if, after_move_if, plies_in, item_text, Adds, rules, san, MarkPairs, disambiguation_pairs, Written, common_steps}
use Rattle.std.proofs.lemmas.List.Elements.{All-append}
use Rattle.std.proofs.Math.Dec.{eqb-suc-zero}
use Rattle.pgn_layout.specs.declared.sink.WriteFault.{WriteFault}
use Rattle.pgn_game.specs.games.Game.{move}
use Rattle.pgn_game.proofs.reading.MovetextTokens.{levels_more}
use Rattle.pgn_layout.proofs.OneWriteMore.{front_of_more, Writes-append}
use Rattle.pgn_game.proofs.putting.ItemsAppended.{written_from_start, written_behind, written_more, tokens_behind, tokens_more, full_lines_put, last_line_put}

-- Tokens put in turn: what goes out, and the line that is held.
full_lines_laid : (ts us : List (List ℕ)) → All IsToken ts → All IsToken us → text_of_lines (full_lines (lines_of (ts ++ us)))
    ≡ text_of_lines (full_lines (lines_of ts)) ++ (laid_from (last_line (lines_of ts)) (map Put us)).written
full_lines_laid ts [] each more = cc (append-nil ts, append-nil (text_of_lines _))
full_lines_laid ts (u ∷ us) each more =
    let full = text_of_lines (full_lines (lines_of ts)) in
    let last = last_line (lines_of ts) in
    let first = All-append IsToken ts (u ∷ []) each (All-cons IsToken u [] (All-head IsToken u us more) (All-nil IsToken)) in
    cc (
      append_assoc ts (u ∷ []) us,
      full_lines_laid (ts ++ u ∷ []) us first (All-tail IsToken u us more),
      full_lines_put ts u each,
      last_line_put ts u each,
      append_assoc full (text_put last u) (laid_from (line_put last u) (map Put us)).written,
    )

last_line_laid : (ts us : List (List ℕ)) → All IsToken ts → All IsToken us
    → last_line (lines_of (ts ++ us)) ≡ (laid_from (last_line (lines_of ts)) (map Put us)).line
last_line_laid ts [] each more = cc (append-nil ts)
last_line_laid ts (u ∷ us) each more =
    let first = All-append IsToken ts (u ∷ []) each (All-cons IsToken u [] (All-head IsToken u us more) (All-nil IsToken)) in
    cc (append_assoc ts (u ∷ []) us, last_line_laid (ts ++ u ∷ []) us first (All-tail IsToken u us more), last_line_put ts u each)

-- One item more.
ends_in_move-append : (b : Bool) (xs ys : List Placed) → ends_in_move b (xs ++ ys) ≡ ends_in_move (ends_in_move b xs) ys
ends_in_move-append b [] ys = refl
ends_in_move-append b (x ∷ xs) ys = ends_in_move-append _ xs ys

-- the moves outside variations
abbrev main_of : ModelLevels → List Move
main_of ls = (outermost ls.current ls.around).trail

plies_by : (i : Item) (current : ModelLevel) (around : List ModelLevel)
    → length (main_of (levels_after (record { current = current; around = around }) i))
    ≡ length (main_of (record { current = current; around = around })) + plies_in i (length around)
plies_by (move m) current [] = omega arith
plies_by (move m) current (l ∷ around) = grind (arith, common_steps, eqb-suc-zero)
plies_by close_variation current [] = omega arith
plies_by close_variation current (l ∷ around) = omega arith
plies_by _ current around = omega arith

plies-snoc : (items : List Item) (i : Item)
    → length (main_moves (items ++ i ∷ [])) ≡ length (main_moves items) + plies_in i (depth (levels_of items))
plies-snoc items i = cc (levels_more items i, plies_by i (levels_of items).current (levels_of items).around)

same_depth : (mode : Option Mode) (start : Parts) (items : List Item) (text : Movetext) (line : List ℕ) → HoldsItems mode start items text line
    → depth (levels_of items) ≡ length text.levels.around
same_depth mode start items text line holds = cc (length-map (levels_of items).around (stored_level start), holds.levels)

-- Whether an item is written decides its tokens, and whether a move was written last.
module _ (mode : Mode) (start : Parts) (items : List Item) (i : Item) (text : Movetext) (line : List ℕ) (written : Bool)
    (holds : HoldsItems (Some mode) start items text line) (is : is_written (Some mode) (length text.levels.around) i ≡ written) where
  abbrev placed : Placed
  placed = record { position = here start (levels_of items); depth = depth (levels_of items); item = i }

  same : depth (levels_of items) ≡ length text.levels.around
  same = same_depth (Some mode) start items text line holds

  behind_by : (m : Mode)
      → written_behind m start items (i ∷ []) ≡ elim (is_written (Some m) (depth (levels_of items)) i) [ true ↦ placed ∷ [] | false ↦ [] ]
  behind_by m = grind arith

  behind_is : written_behind mode start items (i ∷ []) ≡ elim written [ true ↦ placed ∷ [] | false ↦ [] ]
  behind_is = grind (arith, same, behind_by)

  tokens_are : tokens_behind mode start items (i ∷ []) ≡ tokens_if written text i
  tokens_are = grind (arith, append-nil, written_from_start, behind_is)

  ends_are : after_move_if written text i ≡ ends_in_move text.is_after_move (written_behind mode start items (i ∷ []))
  ends_are = grind (arith, behind_is)

-- The levels that an item leads to.
module _ (start : Parts) where
  closed : (current : ModelLevel) (around : List ModelLevel) (new : StoredLevels) → 0 < length (map (stored_level start) around)
      → ClosesLevel (map (stored_level start) around) new
      → new ≡ stored_levels start (levels_after (record { current = current; around = around }) close_variation)
  closed current around new some h = search rules

-- a legal move leads to the position after it
played_is : (p : Parts) (m : Move) (next : Parts) → legal p m ≡ Some next → next ≡ play p m
unfolding play
played_is p m next is = cc

abbrev then_at : StoredLevels → Parts → StoredLevels
then_at ls next = record { current = record { position = next; before = Some ls.current.position }; around = ls.around }

-- what an item of the model makes of movetext
pub record Advances (i : Item) (text new : Movetext) : Type 0 where
  pub levels : (start : Parts) (ls : ModelLevels) → text.levels ≡ stored_levels start ls
      → new.levels ≡ stored_levels start (levels_after ls i)
  pub plies : new.plies ≡ text.plies + plies_in i (length text.levels.around)
  pub is_after_move : new.is_after_move ≡ text.is_after_move

pub plays_on : (m : Move) (text new : Movetext) → Plays m text new → Advances (move m) text new
plays_on m text new on = record {
  levels = λ start ls e.
      on.levels ∙ ap (then_at text.levels) (played_is text.levels.current.position m _ on.leads)
      ∙ ap (λ l. then_at l (play l.current.position m)) e;
  plies = on.plies;
  is_after_move = on.is_after_move;
}

-- a token that adds this item, which is no move
pub record AddsOne (e : Event) (i : Item) : Type 0 where
  pub item : items_meant e ≡ i ∷ []
  pub plain : is_move i ≡ false

by_open : (start : Parts) (ls : ModelLevels) (old new : StoredLevels)
    → IsSomeAnd old.current.before (λ s. new ≡ record { current = level_at s; around = old.current ∷ old.around })
    → old ≡ stored_levels start ls → new ≡ stored_levels start (levels_after ls open_variation)
by_open start ls old new h same = search rules

by_close : (start : Parts) (ls : ModelLevels) (old new : StoredLevels) → 0 < length old.around → ClosesLevel old.around new
    → old ≡ stored_levels start ls → new ≡ stored_levels start (levels_after ls close_variation)
by_close start ls old new some h same = closed start ls.current ls.around new (rw same at some) (rw same at h)

-- the levels of the definitions stay as they are, but for variations
stays : (e : Event) (i : Item) (start : Parts) (ls : ModelLevels) (old new : StoredLevels) → AddsOne e i → LeadsLevels e old new
    → old ≡ stored_levels start ls → new ≡ stored_levels start (levels_after ls i)
stays e i start ls old new adds on same = search (rules, by_open, by_close)

pub goes_on : (e : Event) (i : Item) (text new : Movetext) → AddsOne e i → Annotates e text new → Advances i text new
goes_on e i text new adds on = search (rules, stays)

one_at_most : (moved main : Bool) → elim moved [ true ↦ elim main [ true ↦ 1 | false ↦ 0 ] | false ↦ 0 ] ≤ 1
one_at_most moved main = search rules

-- An item's tokens were put where it is written, and the movetext went on with it.
module _ (mode : Option Mode) (i : Item) (text : Movetext) (line new_line : List ℕ) (d : Device) where
  abbrev written : Option Mode → Bool
  written by = is_written by (length text.levels.around) i

  abbrev between : Option Mode → Movetext
  between by = record text { is_after_move = after_move_if (written by) text i }

  abbrev us : Option Mode → List (List ℕ)
  us by = tokens_if (written by) text i

  tokens_then : (m : Mode) (start : Parts) (items : List Item) → HoldsItems (Some m) start items text line
      → tokens_out m start (items ++ i ∷ []) ≡ tokens_out m start items ++ us (Some m)
  tokens_then m start items holds = cc (tokens_more m start items (i ∷ []), tokens_are m start items i text line (written (Some m)) holds refl)

  item_text_is : (by : Option Mode) (start : Parts) (items : List Item) → HoldsItems by start items text line → All IsToken (us by)
      → (laid_from line (map Put (us by))).written ≡ item_text by start items i
  item_text_is by start items holds each = search (rules, drop-append_seam, full_lines_laid, tokens_then)

  line_then : (by : Option Mode) (start : Parts) (items : List Item) (new : Movetext) → HoldsItems by start items text line → All IsToken (us by)
      → new_line ≡ (laid_from line (map Put (us by))).line → Advances i (between by) new
      → HoldsLineOf by start (items ++ i ∷ []) new.is_after_move new_line
  line_then None start items new holds each held on = held ∙ holds.held
  line_then (Some m) start items new holds each held on =
      let ts = tokens_out m start items in
      let behind = written_behind m start items (i ∷ []) in
      record {
        is_after_move = cc (
          on.is_after_move,
          ends_are m start items i text line (written (Some m)) holds refl,
          holds.held.is_after_move,
          written_more m start items _,
          ends_in_move-append false (written_from_start m start items) behind,
        );
        tokens = subst (All IsToken) (sym (tokens_then m start items holds)) (All-append IsToken ts (us (Some m)) holds.held.tokens each);
        last = cc (holds.held.last, tokens_then m start items holds, last_line_laid ts (us (Some m)) holds.held.tokens each);
      }

  held_then : (start : Parts) (items : List Item) (new : Movetext) → HoldsItems mode start items text line → All IsToken (us mode)
      → new_line ≡ (laid_from line (map Put (us mode))).line → Advances i (between mode) new → HoldsItems mode start (items ++ i ∷ []) new new_line
  held_then start items new holds each held on = grind (arith, common_steps, levels_more, same_depth, plies-snoc, line_then)

  pub adds_put : (new : Movetext) → PutsTokens {A = Unit} {E = WriteFault} (us mode) line new_line (Ok tt) d
      → Advances i (between mode) new → Adds {A = Unit} {E = WriteFault} mode i text line new new_line (Ok tt) d
  adds_put new puts on = record {
    adds = λ start items holds. (
      held_then start items new holds puts.each puts.held on,
      subst (Appends _ _) (item_text_is mode start items holds puts.each) puts.text,
    );
    plies = omega (arith, on.plies, one_at_most (is_move i) (length text.levels.around == 0));
    counted = puts.counted;
  }

  pub adds_front : {A E : Type 0} (new : Movetext) (e : E) (result : Result Unit WriteFault)
      → PutsTokens {A = A} (us mode) line new_line (Err e) d → new.plies ≤ text.plies + 1 → IsErr result → Adds mode i text line new new_line result d
  adds_front new e result puts few err = search (rules, item_text_is)

-- an item that is written is one of a writer that is not silent
pub not_silent : (w : Written) (deep : ℕ) (i : Item) → is_written (mode_of_written w) deep i ≡ true → is_nothing w ≡ false
not_silent w deep i is = grind arith

-- An annotation, which is no move: its token, and that it is not a move.
module _ (mode : Option Mode) (i : Item) (t : List ℕ) (text : Movetext) (no : is_move i ≡ false)
    (is : tokens_at text.is_after_move text.levels.current.position i ≡ t ∷ []) where
  pub annotation_tokens : (deep : ℕ) → token_if (writes_annotations mode) t ≡ tokens_if (is_written mode deep i) text i
  annotation_tokens deep = grind (arith, common_steps)

  pub annotation_ends : (deep : ℕ) → (not (writes_annotations mode) && text.is_after_move) ≡ after_move_if (is_written mode deep i) text i
  annotation_ends deep = grind (arith, common_steps)

-- Tokens put after others.
laid-written : (line : List ℕ) (xs ys : List (List ℕ)) → (laid_from line (map Put (xs ++ ys))).written
    ≡ (laid_from line (map Put xs)).written ++ (laid_from (laid_from line (map Put xs)).line (map Put ys)).written
laid-written line [] ys = refl
laid-written line (x ∷ xs) ys =
    let next = line_put line x in
    cc (
      laid-written next xs ys,
      append_assoc (text_put line x) (laid_from next (map Put xs)).written (laid_from (laid_from next (map Put xs)).line (map Put ys)).written,
    )

laid-line : (line : List ℕ) (xs ys : List (List ℕ))
    → (laid_from line (map Put (xs ++ ys))).line ≡ (laid_from (laid_from line (map Put xs)).line (map Put ys)).line
laid-line line [] ys = refl
laid-line line (x ∷ xs) ys = laid-line (line_put line x) xs ys

abbrev pub from_to : Option (List ℕ) → Option (List ℕ) → ℕ → ℕ → Device
from_to a b n m = record { before = a; after = b; failures = n; failures_after = m }

pub puts_after : {A B E : Type 0} (xs ys : List (List ℕ)) (line between new_line : List ℕ)
    (x : A) (result : Result B E) (a b c : Option (List ℕ)) (n m k : ℕ)
    → PutsTokens {A = A} {E = E} xs line between (Ok x) (from_to a b n m) → PutsTokens ys between new_line result (from_to b c m k)
    → PutsTokens (xs ++ ys) line new_line result (from_to a c n k)
puts_after xs ys line between new_line x result a b c n m k first more =
    grind (arith, common_steps, laid-written, Writes-append, laid-line, All-append)

-- so where a write failed before the last tokens
pub puts_fail : {A B E F : Type 0} (xs ys : List (List ℕ)) (line new_line then_line : List ℕ)
    (e : E) (result : Result B F) (d : Device) → All IsToken ys
    → PutsTokens {A = A} {E = E} xs line new_line (Err e) d → IsErr result → PutsTokens (xs ++ ys) line then_line result d
puts_fail xs ys line new_line then_line e (Ok x) d each first err = absurd (cc)
puts_fail xs ys line new_line then_line e (Err f) d each first err = grind (arith, common_steps, laid-written, front_of_more)

-- The text that is written for a move is the one of the definitions, and a token.
pub is_text : (p q : Parts) (m : Move) (s : List ℕ) → s ≡ san q m → q ≡ p → s ≡ text_of_move p m
unfolding text_of_move
is_text p q m s text same = cc

pub is_token : (p : Parts) (m : Move) (s : List ℕ) → s ≡ text_of_move p m
    → 0 < length s → length s ≤ 7 → All IsToken (text_of_move p m ∷ [])
is_token p m s text some short = search (rules, All-nil, All-cons)

-- the pairs of a move are those of its position, however the code holds that
pub writes_move : (place held : Parts) (m : Move) (next : Parts) (n k : ℕ) → held ≡ place → legal place m ≡ Some next
    → MarkPairs next (n + disambiguation_pairs held m) k → MarkPairs (play place m) (n + disambiguation_pairs place m) k
writes_move place held m next n k same is h =
    rw (played_is place m next is) at
    (rw same at h)
