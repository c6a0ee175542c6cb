-- The lines of a text are the first whole line of a piece, and those behind it.
use Rattle.std.proofs.Common.{rules}
use Rattle.pgn_sections.proofs.Words.{common_steps, ◌≡◌, ℕ, ◌+◌, ◌-◌, ◌<◌, Bool, true, false, List, [], ◌∷◌, ◌++◌, Option, None, Some, length, drop, take, refl, sym, ◌∙◌, ap, arith, append-nil, false≢true, lt-ltb, drop_all, IsTrue, is_some, ◌||◌, ◌==◌, if◌then◌else◌, behind_line, place_on, with_line, line_from, line_to_return, ends_line, lines_of, place_in, with_first, CanFollow, FindsPlace, IsSameGame, behind_lines, ends_with_line_feed, whole_lines, BadGame}

-- The first line of a piece and what follows it. So many bytes of it are before the piece.
pub record FirstLine (before end : ℕ) (piece s : List ℕ) : Type 0 where
  pub above : before < end
  pub lines : lines_of (piece ++ s) ≡ take (end - before) piece ∷ lines_of (drop (end - before) piece ++ s)

-- one byte before it
longer : (b before end : ℕ) (u s : List ℕ) → ends_line b (u ++ s) ≡ false → FirstLine (before + 1) end u s → FirstLine before end (b ∷ u) s
longer b before end u s e h = grind (arith, common_steps)

-- a line of one byte, and of CR LF
one : (b before end : ℕ) (u s : List ℕ) → ends_line b (u ++ s) ≡ true → end ≡ before + 1 → FirstLine before end (b ∷ u) s
one b before end u s e k = grind (arith, common_steps)

-- a single byte at the end of the text
alone : (b before end : ℕ) → end ≡ before + 1 → FirstLine before end (b ∷ []) []
alone b before end k = grind (arith, common_steps)

-- a CR at the end of the first line
at_return : (is_last : Bool) (before b : ℕ) (u s : List ℕ) (end : ℕ) → CanFollow is_last s → (b == 10) ≡ false → (b == 13) ≡ true
    → line_to_return is_last before u ≡ Some end → FirstLine before end (b ∷ u) s
at_return is_last before b u s end follow n r e = grind (arith, common_steps, alone, longer, one)

-- the first byte of a line, if it is known that the line goes on behind a byte that ends none
first_byte : (is_last : Bool) (before b : ℕ) (u s : List ℕ) (end : ℕ) → CanFollow is_last s → line_from is_last before (b ∷ u) ≡ Some end
    → ((b == 10) ≡ false → (b == 13) ≡ false → line_from is_last (before + 1) u ≡ Some end → FirstLine before end (b ∷ u) s)
    → FirstLine before end (b ∷ u) s
first_byte is_last before b u s end follow e on = grind (arith, common_steps, at_return, one)

-- the last byte of a piece
last_byte : (is_last : Bool) (before b : ℕ) (s : List ℕ) (end : ℕ) → CanFollow is_last s → line_from is_last (before + 1) [] ≡ Some end
    → FirstLine before end (b ∷ []) s
last_byte is_last before b s end follow e = grind (arith, common_steps, alone)

first_line : (is_last : Bool) (before b : ℕ) (u s : List ℕ) (end : ℕ) → CanFollow is_last s → line_from is_last before (b ∷ u) ≡ Some end
    → FirstLine before end (b ∷ u) s
first_line is_last before b [] s end follow e = grind (arith, common_steps, first_byte, last_byte)
first_line is_last before b (c ∷ u) s end follow e =
    first_byte is_last before b (c ∷ u) s end follow e (λ n r k.
    longer b before end (c ∷ u) s (rw (n, r) refl) (first_line is_last (before + 1) c u s end follow k))

-- The lines from a piece on are its first whole line and those behind it.
pub whole_line : (is_last : Bool) (u s : List ℕ) (end : ℕ) → CanFollow is_last s → line_from is_last 0 u ≡ Some end
    → lines_of (u ++ s) ≡ take end u ∷ lines_of (drop end u ++ s)
whole_line true [] s end follow e = absurd cc
whole_line false [] s end follow e = absurd cc
whole_line is_last (b ∷ u) s end follow e =
    let h = first_line is_last 0 b u s end follow e in
    let n : end - 0 ≡ end = omega arith in
    rw n at h.lines

-- a line of the last piece is whole
some_line : (before b : ℕ) (u : List ℕ) → line_from true before (b ∷ u) ≡ None → ⊥
some_line before b [] e = grind (arith, common_steps, lt-ltb)
some_line before b (c ∷ u) e = grind (arith, common_steps, some_line (before + 1) c u)

-- behind the last line of the last piece no byte is left
pub no_line : (is_last : Bool) (u : List ℕ) → IsTrue is_last → line_from is_last 0 u ≡ None → u ≡ []
no_line true [] h e = refl
no_line true (b ∷ u) h e = absurd (some_line 0 b u e)
no_line false u h e = absurd (false≢true h)

-- a line ends with an LF if its rest does
feed_longer : (b : ℕ) (u : List ℕ) → ends_with_line_feed u ≡ true → ends_with_line_feed (b ∷ u) ≡ true
feed_longer b u e = grind (arith, common_steps)

-- A first line that is a whole piece ends with an LF, if the text goes on: at its first byte, ..
feed_at_once : (before b end : ℕ) (u : List ℕ) → (b == 10) ≡ true → end ≡ before + 1 → drop (end - before) (b ∷ u) ≡ []
    → ends_with_line_feed (take (end - before) (b ∷ u)) ≡ true
feed_at_once before b end u is k none = grind (arith, common_steps)

-- .. behind a CR, ..
feed_behind_return : (before b end : ℕ) (u : List ℕ) → line_to_return false before u ≡ Some end → drop (end - before) (b ∷ u) ≡ []
    → ends_with_line_feed (take (end - before) (b ∷ u)) ≡ true
feed_behind_return before b end u e none = grind (arith, common_steps)

-- .. or behind other bytes
feed_further : (before b end : ℕ) (u : List ℕ) → before + 1 < end
    → (drop (end - (before + 1)) u ≡ [] → ends_with_line_feed (take (end - (before + 1)) u) ≡ true) → drop (end - before) (b ∷ u) ≡ []
    → ends_with_line_feed (take (end - before) (b ∷ u)) ≡ true
feed_further before b end u above on none = grind (arith, common_steps, feed_longer)

above_front : (before end : ℕ) (u : List ℕ) → line_from false before u ≡ Some end → before < end
above_front before end [] e = absurd cc
above_front before end (b ∷ u) e = (first_line false before b u [] end (λ h. absurd (false≢true h)) e).above

feed_at_end : (before : ℕ) (u : List ℕ) (end : ℕ) → line_from false before u ≡ Some end → drop (end - before) u ≡ []
    → ends_with_line_feed (take (end - before) u) ≡ true
feed_at_end before [] end e none = absurd cc
feed_at_end before (b ∷ u) end e none =
    grind (arith, common_steps, feed_at_once, feed_behind_return, feed_further before b end u, above_front (before + 1) end u, feed_at_end (before + 1) u end)

-- a text with a byte has a line
pub a_line : (b : ℕ) (s : List ℕ) → lines_of (b ∷ s) ≡ [] → ⊥
a_line b s e = search rules

-- the whole lines behind a first one
pub whole_behind : (is_last : Bool) (line : List ℕ) (lines : List (List ℕ)) → (lines ≡ [] → (is_last || ends_with_line_feed line) ≡ true)
    → whole_lines is_last (line ∷ lines) ≡ line ∷ whole_lines is_last lines
whole_behind is_last line lines h = grind (arith, common_steps)

no_lines : (s : List ℕ) → lines_of s ≡ [] → s ≡ []
no_lines [] e = refl
no_lines (b ∷ s) e = absurd (a_line b s e)

-- The whole lines of a piece are its first one and those behind it.
whole_first : (is_last : Bool) (u : List ℕ) (n : ℕ) → line_from is_last 0 u ≡ Some n
    → whole_lines is_last (lines_of u) ≡ take n u ∷ whole_lines is_last (lines_of (drop n u))
whole_first is_last u n e =
    let lines : lines_of u ≡ take n u ∷ lines_of (drop n u) =
    rw (append-nil u, append-nil (drop n u)) at (whole_line is_last u [] n (λ _. refl) e) in
    ap (whole_lines is_last) lines ∙ whole_behind is_last (take n u) (lines_of (drop n u)) (λ none. ends is_last e (no_lines (drop n u) none)) where
      ends : (is_last : Bool) → line_from is_last 0 u ≡ Some n → drop n u ≡ [] → (is_last || ends_with_line_feed (take n u)) ≡ true
      ends true e none = refl
      ends false e none =
          let whole : n - 0 ≡ n = omega arith in
          rw whole at (feed_at_end 0 u n e (rw whole none))

-- one byte more before what has no whole line
none_longer : (b : ℕ) (lines : List (List ℕ)) → (b == 10) ≡ false → whole_lines false lines ≡ [] → whole_lines false (with_first b lines) ≡ []
none_longer b lines n h = grind (arith, common_steps)

none_whole : (before : ℕ) (u : List ℕ) → line_from false before u ≡ None → whole_lines false (lines_of u) ≡ []
none_whole before [] e = refl
none_whole before (b ∷ []) e = grind (arith, common_steps)
none_whole before (b ∷ c ∷ u) e = grind (arith, common_steps, none_longer, none_whole (before + 1) (c ∷ u))

-- a piece without a first whole line has none
pub no_whole_line : (is_last : Bool) (u : List ℕ) → line_from is_last 0 u ≡ None → whole_lines is_last (lines_of u) ≡ []
no_whole_line is_last u e = grind (arith, common_steps, no_line, none_whole)

-- A game and lines to read lead to the place and the game to which another game and other lines
-- lead.
pub record ReadsOn (g : BadGame) (lines : List (List ℕ)) (new : BadGame) (left : List (List ℕ)) : Type 0 where
  pub found : place_in g lines ≡ place_in new left
  pub game : behind_lines g lines ≡ behind_lines new left

pub reads_then : (a b c : BadGame) (x y z : List (List ℕ)) → ReadsOn a x b y → ReadsOn b y c z → ReadsOn a x c z
reads_then a b c x y z p q = record { found = p.found ∙ q.found; game = p.game ∙ q.game }

-- a first line that shows no place
reads_first : (g new : BadGame) (lines left : List (List ℕ)) (line : List ℕ) → lines ≡ line ∷ left → place_on g line ≡ None
    → new ≡ behind_line g line → ReadsOn g lines new left
reads_first g new lines left line e none same = rw (e, same) (record { found = rw none refl; game = rw none refl })

-- one that shows a place
pub record StopsAtPlace (g : BadGame) (lines : List (List ℕ)) (place : ℕ) : Type 0 where
  pub found : place_in g lines ≡ Some place
  pub game : behind_lines g lines ≡ record g { at = place }

stops_first : (g : BadGame) (lines left : List (List ℕ)) (line : List ℕ) (place : ℕ) → lines ≡ line ∷ left → place_on g line ≡ Some place
    → StopsAtPlace g lines place
stops_first g lines left line place e shown = rw e (record { found = rw shown refl; game = rw shown refl })

-- The first whole line of a piece shows no place: so the lines are those behind it, of the piece
-- alone and with what follows it. Or it shows one.
module _ (g : BadGame) (is_last : Bool) (u line : List ℕ) (n : ℕ) (first : line_from is_last 0 u ≡ Some n) (is_line : line ≡ take n u) where
  pub reads_whole : (new : BadGame) (rest : List ℕ) → rest ≡ drop n u → place_on g line ≡ None → new ≡ behind_line g line
      → ReadsOn g (whole_lines is_last (lines_of u)) new (whole_lines is_last (lines_of rest))
  reads_whole new rest r none same = reads_first g new _ _ line (whole_first is_last u n first ∙ rw (is_line, r) refl) none same

  pub reads_on : (new : BadGame) (rest s : List ℕ) → CanFollow is_last s → rest ≡ drop n u → place_on g line ≡ None → new ≡ behind_line g line
      → ReadsOn g (lines_of (u ++ s)) new (lines_of (rest ++ s))
  reads_on new rest s follow r none same = reads_first g new _ _ line (whole_line is_last u s n follow first ∙ rw (is_line, r) refl) none same

  pub stops : (place : ℕ) → place_on g line ≡ Some place → StopsAtPlace g (whole_lines is_last (lines_of u)) place
  stops place shown = stops_first g _ (whole_lines is_last (lines_of (drop n u))) line place (whole_first is_last u n first ∙ rw is_line refl) shown

  pub shows : (place : ℕ) (s : List ℕ) → CanFollow is_last s → place_on g line ≡ Some place → place_in g (lines_of (u ++ s)) ≡ Some place
  shows place s follow shown = grind (arith, common_steps, stops_first, whole_line)

same_of_both : (b : Bool) (g x y : BadGame) → IsSameGame g x → IsSameGame g y → IsSameGame g (if b then x else y)
same_of_both b g x y p q = grind (arith, common_steps)

kept : (g : BadGame) (line : List ℕ) → IsSameGame g (with_line g line)
kept g line = search (rules, same_of_both, is_some)

-- a line leaves the game the same
pub same_behind : (first g new : BadGame) (line : List ℕ) → new ≡ behind_line g line → IsSameGame first g → IsSameGame first new
same_behind first g new line e h = grind (arith, common_steps, kept)

-- a text in one piece
pub finds_all : (g new : BadGame) (text : List ℕ) (result : Option ℕ) → FindsPlace g text true result new → result ≡ place_in g (lines_of text)
finds_all g new text None h =
    let end : new.at - g.at ≡ length text = omega (arith, h.whole refl refl) in
    let e = h.place [] (λ _. refl) in
    sym (rw (append-nil text, append-nil (drop (new.at - g.at) text), end, drop_all (length text) text (omega arith)) at e)
finds_all g new text (Some place) h =
    let e = h.place [] (λ _. refl) in
    sym (rw (append-nil text) at e)
