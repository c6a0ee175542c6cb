-- The lines that the code reads, byte by byte, are those of the text.
use Rattle.pgn_sections.proofs.Words.{and-false, or-true, ◌≡◌, ℕ, ◌+◌, Bool, true, false, List, [], ◌∷◌, ◌++◌, Option, None, Some, length, refl, sym, ◌∙◌, ap, subst, arith, true≢false, common_steps, append_assoc, ◌&&◌, ◌||◌, ◌==◌, IfSome, not, if◌then◌else◌, list_all, behind_line, place_on, begins_with, line_begun, line_over, line_with, first_place, lines_of, place_in, with_first, ends_with_line_feed, whole_lines, byte_taken, byte_taken_if, ended_at, line_ended, place_at_end, place_behind, reader_of, reader_over, reader_with, BadGame, Line, LineReader}
use Rattle.pgn_sections.proofs.LineOfBytes.{game_is, length_kept, place_is}
use Rattle.pgn_sections.proofs.LinesInPieces.{a_line, whole_behind}
use Rattle.pgn_sections.specs.Line as kept

-- Bytes that end no line, and the lines of a text behind them.

abbrev is_plain : ℕ → Bool
is_plain b = not ((b == 10) || (b == 13))

abbrev are_plain : List ℕ → Bool
are_plain u = list_all is_plain u

abbrev put : List ℕ → List (List ℕ) → List (List ℕ)
put [] lines = lines
put (b ∷ u) lines = with_first b (put u lines)

put_line : (u line : List ℕ) (lines : List (List ℕ)) → put u (line ∷ lines) ≡ (u ++ line) ∷ lines
put_line [] line lines = refl
put_line (b ∷ u) line lines = ap (λ (x : List (List ℕ)). with_first b x) (put_line u line lines)

put_none : (b : ℕ) (u : List ℕ) → put (b ∷ u) [] ≡ (b ∷ u) ∷ []
put_none b [] = refl
put_none b (c ∷ u) = ap (λ (x : List (List ℕ)). with_first b x) (put_none c u)

both_left : (t u : Bool) → (t && u) ≡ true → t ≡ true
both_left t u h = grind (arith, common_steps)

both_right : (t u : Bool) → (t && u) ≡ true → u ≡ true
both_right t u h = grind (arith, common_steps, true≢false)

ends_none : (t u v : Bool) → not (t || u) ≡ true → (t || (u && v)) ≡ false
ends_none t u v h = grind (arith, common_steps, true≢false)

plain_lines : (u s : List ℕ) → are_plain u ≡ true → lines_of (u ++ s) ≡ put u (lines_of s)
plain_lines [] s h = refl
plain_lines (b ∷ u) s h = grind (arith, common_steps, ends_none, both_left, both_right, (plain_lines u s (both_right (is_plain b) (are_plain u) h)))

plain_more : (u : List ℕ) (b : ℕ) → are_plain u ≡ true → is_plain b ≡ true → are_plain (u ++ b ∷ []) ≡ true
plain_more u b h k = grind (arith, common_steps, both_left, both_right)

line_more : (l : Line) (u : List ℕ) (b : ℕ) → line_over l (u ++ b ∷ []) ≡ line_with (line_over l u) b
line_more l [] b = refl
line_more l (c ∷ u) b = line_more (line_with l c) u b

feed_behind : (u : List ℕ) (b : ℕ) → ends_with_line_feed (u ++ b ∷ []) ≡ (b == 10)
feed_behind [] b = refl
feed_behind (c ∷ []) b = refl
feed_behind (c ∷ d ∷ u) b = feed_behind (d ∷ u) b

plain_feeds : (b : ℕ) (u : List ℕ) → are_plain (b ∷ u) ≡ true → ends_with_line_feed (b ∷ u) ≡ false
plain_feeds b [] h = grind (arith, common_steps, both_left, true≢false)
plain_feeds b (c ∷ u) h = plain_feeds c u (both_right (is_plain b) (are_plain (c ∷ u)) h)

-- a reader in a line of a game
abbrev at_line : BadGame → List ℕ → Bool → LineReader
at_line g u is_behind_return = record { game = g; line = line_over (line_begun g) u; is_behind_return = is_behind_return; found = None }

abbrev Finds : Bool → LineReader → BadGame → List ℕ → List (List ℕ) → Type 0
Finds is_last r g s lines = place_behind r is_last s ≡ place_in g (whole_lines is_last lines)

-- the end of the text

first_or_none : (o : Option ℕ) → o ≡ first_place o None
first_or_none o = grind (arith, common_steps)

no_bytes : (is_last : Bool) (g : BadGame) (r : Bool) → place_at_end is_last (at_line g [] r) ≡ None
no_bytes is_last g r = ap (λ (t : Bool). if t then kept.place_on g (line_begun g) else None) (and-false is_last)

last_line : (is_last : Bool) (g : BadGame) (b : ℕ) (u : List ℕ) (r : Bool) → ends_with_line_feed (b ∷ u) ≡ false
    → place_at_end is_last (at_line g (b ∷ u) r) ≡ place_in g (whole_lines is_last ((b ∷ u) ∷ []))
last_line false g b u r h = sym (ap (λ (t : Bool). place_in g (if t then (b ∷ u) ∷ [] else [])) h)
last_line true g b u r h =
    let e = length_kept (line_begun g) (b ∷ u) in
    let some : (line_over (line_begun g) (b ∷ u)).length == 0 ≡ false = not_zero (line_over (line_begun g) (b ∷ u)).length (length u) (omega (arith, e)) in
    ap (λ (t : Bool). if not t then kept.place_on g (line_over (line_begun g) (b ∷ u)) else None) some
    ∙ place_is g (b ∷ u)
    ∙ first_or_none (place_on g (b ∷ u)) where
      not_zero : (n m : ℕ) → n ≡ m + 1 → (n == 0) ≡ false
      not_zero n m e = grind (arith, common_steps)

-- a line that ends, and the text behind it

stays : (r : LineReader) (place : ℕ) (s : List ℕ) → reader_over (record r { found = Some place }) s ≡ record r { found = Some place }
stays r place [] = refl
stays r place (b ∷ s) = stays r place s

line_done : (is_last : Bool) (g : BadGame) (u : List ℕ) (r : Bool) (s : List ℕ) (lines : List (List ℕ))
    → place_behind (reader_of (behind_line g u)) is_last s ≡ place_in (behind_line g u) lines
    → place_behind (line_ended (at_line g u r)) is_last s ≡ place_in g (u ∷ lines)
line_done is_last g u r s lines on =
    ap (λ (o : Option ℕ). place_behind (ended_at o (at_line g u r)) is_last s) (place_is g u) ∙ by_place (place_on g u) where
      by_place : (o : Option ℕ)
          → place_behind (ended_at o (at_line g u r)) is_last s ≡ first_place o (place_in (behind_line g u) lines)
      by_place None = ap (λ (h : BadGame). place_behind (reader_of h) is_last s) (game_is g u) ∙ on
      by_place (Some place) = ap (λ (x : LineReader). place_at_end is_last x) (stays (at_line g u r) place s)

-- the text from a line on, or from a CR on that may end it
record GoesOn (is_last : Bool) (s : List ℕ) : Type 0 where
  plain : (g : BadGame) (u : List ℕ) → are_plain u ≡ true → Finds is_last (at_line g u false) g s (lines_of (u ++ s))
  behind_return : (g : BadGame) (u : List ℕ) → are_plain u ≡ true
      → Finds is_last (at_line g (u ++ 13 ∷ []) true) g s (lines_of ((u ++ 13 ∷ []) ++ s))

same : (b c : ℕ) → (b == c) ≡ true → b ≡ c
same b c h = grind (arith, common_steps)

-- a text that goes on behind a line
line_and_more : (is_last : Bool) (g : BadGame) (u : List ℕ) (r : Bool) (s : List ℕ) (lines rest : List (List ℕ))
    → Finds is_last (reader_of (behind_line g u)) (behind_line g u) s rest
    → (rest ≡ [] → (is_last || ends_with_line_feed u) ≡ true) → lines ≡ u ∷ rest
    → Finds is_last (line_ended (at_line g u r)) g s lines
line_and_more is_last g u r s lines rest on whole e = grind (arith, common_steps, line_done, whole_behind)

feed_whole : (is_last : Bool) (u : List ℕ) (b : ℕ) → (b == 10) ≡ true → (is_last || ends_with_line_feed (u ++ b ∷ [])) ≡ true
feed_whole is_last u b h = ap (λ (t : Bool). is_last || t) (feed_behind u b ∙ h) ∙ or-true is_last

abbrev in_line : BadGame → Line → Bool → LineReader
in_line g l r = record { game = g; line = l; is_behind_return = r; found = None }

-- one byte of a line
taken : (is_last : Bool) (g : BadGame) (u : List ℕ) (b : ℕ) (s : List ℕ) → are_plain u ≡ true → GoesOn is_last s
    → Finds is_last (byte_taken (at_line g u false) b) g s (lines_of (u ++ b ∷ s))
taken is_last g u b s h on =
    ap (λ (l : Line). place_behind (if b == 10 then line_ended (in_line g l (b == 13)) else in_line g l (b == 13)) is_last s)
    (sym (line_more (line_begun g) u b))
    ∙ by_byte (b == 10) (b == 13) refl refl where
      by_byte : (t v : Bool) → (b == 10) ≡ t → (b == 13) ≡ v
          → Finds is_last (if t then line_ended (at_line g (u ++ b ∷ []) v) else at_line g (u ++ b ∷ []) v) g s (lines_of (u ++ b ∷ s))
      by_byte true v e k =
          line_and_more is_last g (u ++ b ∷ []) v s (lines_of (u ++ b ∷ s)) (lines_of s) (on.plain (behind_line g (u ++ b ∷ [])) [] refl)
          (λ _. feed_whole is_last u b e)
          (plain_lines u (b ∷ s) h
          ∙ ap (λ (t : Bool). put u (if t || ((b == 13) && not (begins_with 10 s)) then (b ∷ []) ∷ lines_of s else with_first b (lines_of s))) e
          ∙ put_line u (b ∷ []) (lines_of s))
      by_byte false true e k =
          let is : 13 ≡ b = sym (same b 13 k) in
          let here = on.behind_return g u h in
          subst (λ (c : ℕ). Finds is_last (at_line g (u ++ c ∷ []) true) g s (lines_of (u ++ c ∷ s))) is
          (subst (λ (text : List ℕ). Finds is_last (at_line g (u ++ 13 ∷ []) true) g s (lines_of text)) (append_assoc u (13 ∷ []) s) here)
      by_byte false false e k = grind (arith, common_steps, append_assoc, plain_more)

-- behind the end of a line a byte ends no other
ended_goes : (o : Option ℕ) (r : LineReader) (b : ℕ) → byte_taken_if (ended_at o r) b ≡ reader_with (ended_at o r) b
ended_goes o r b = grind (arith, common_steps)

-- a byte behind a CR
behind_a_return : (is_last : Bool) (g : BadGame) (u : List ℕ) (b : ℕ) (s : List ℕ) → are_plain u ≡ true → GoesOn is_last s
    → Finds is_last (at_line g (u ++ 13 ∷ []) true) g (b ∷ s) (lines_of ((u ++ 13 ∷ []) ++ b ∷ s))
behind_a_return is_last g u b s h on = by_byte (b == 10) refl where
  lines : lines_of ((u ++ 13 ∷ []) ++ b ∷ s) ≡ put u (lines_of (13 ∷ b ∷ s))
  lines = ap (λ (text : List ℕ). lines_of text) (append_assoc u (13 ∷ []) (b ∷ s)) ∙ plain_lines u (13 ∷ b ∷ s) h

  by_byte : (t : Bool) → (b == 10) ≡ t → Finds is_last (at_line g (u ++ 13 ∷ []) true) g (b ∷ s) (lines_of ((u ++ 13 ∷ []) ++ b ∷ s))
  by_byte true e =
      let feed : b ≡ 10 = same b 10 e in
      let step : place_behind (at_line g (u ++ 13 ∷ []) true) is_last (b ∷ s) ≡ place_behind (line_ended (in_line g (line_with (line_over (line_begun g) (u ++ 13 ∷ [])) b) (b == 13))) is_last s =
      ap (λ (t : Bool). place_at_end is_last (reader_over (byte_taken_if (if not t then line_ended (at_line g (u ++ 13 ∷ []) true) else at_line g (u ++ 13 ∷ []) true) b) s)) e
      ∙ ap (λ (t : Bool). place_behind (if t then line_ended (in_line g (line_with (line_over (line_begun g) (u ++ 13 ∷ [])) b) (b == 13)) else in_line g (line_with (line_over (line_begun g) (u ++ 13 ∷ [])) b) (b == 13)) is_last s) e in
      let whole : lines_of ((u ++ 13 ∷ []) ++ b ∷ s) ≡ ((u ++ 13 ∷ []) ++ b ∷ []) ∷ lines_of s =
      lines
      ∙ ap (λ (c : ℕ). put u (lines_of (13 ∷ c ∷ s))) feed
      ∙ put_line u (13 ∷ 10 ∷ []) (lines_of s)
      ∙ ap (λ (line : List ℕ). line ∷ lines_of s) (sym (append_assoc u (13 ∷ []) (10 ∷ [])) ∙ ap (λ (c : ℕ). (u ++ 13 ∷ []) ++ c ∷ []) (sym feed)) in
      step
      ∙ ap (λ (l : Line). place_behind (line_ended (in_line g l (b == 13))) is_last s) (sym (line_more (line_begun g) (u ++ 13 ∷ []) b))
      ∙ line_and_more is_last g ((u ++ 13 ∷ []) ++ b ∷ []) (b == 13) s (lines_of ((u ++ 13 ∷ []) ++ b ∷ s)) (lines_of s)
      (on.plain (behind_line g ((u ++ 13 ∷ []) ++ b ∷ [])) [] refl) (λ _. feed_whole is_last (u ++ 13 ∷ []) b e) whole
  by_byte false e =
      let step : place_behind (at_line g (u ++ 13 ∷ []) true) is_last (b ∷ s) ≡ place_behind (line_ended (at_line g (u ++ 13 ∷ []) true)) is_last (b ∷ s) =
      ap (λ (t : Bool). place_at_end is_last (reader_over (byte_taken_if (if not t then line_ended (at_line g (u ++ 13 ∷ []) true) else at_line g (u ++ 13 ∷ []) true) b) s)) e
      ∙ ap (λ (x : LineReader). place_at_end is_last (reader_over x s)) (ended_goes (kept.place_on g (line_over (line_begun g) (u ++ 13 ∷ []))) (at_line g (u ++ 13 ∷ []) true) b) in
      let whole : lines_of ((u ++ 13 ∷ []) ++ b ∷ s) ≡ (u ++ 13 ∷ []) ∷ lines_of (b ∷ s) =
      lines
      ∙ ap (λ (t : Bool). put u (if not t then (13 ∷ []) ∷ lines_of (b ∷ s) else with_first 13 (lines_of (b ∷ s)))) e
      ∙ put_line u (13 ∷ []) (lines_of (b ∷ s)) in
      step
      ∙ line_and_more is_last g (u ++ 13 ∷ []) true (b ∷ s) (lines_of ((u ++ 13 ∷ []) ++ b ∷ s)) (lines_of (b ∷ s))
      (taken is_last (behind_line g (u ++ 13 ∷ [])) [] b s refl on) (λ none. absurd (a_line b s none)) whole

at_end : (is_last : Bool) → GoesOn is_last []
at_end is_last =
    record {
      plain = λ g u h. plain_end g u h;
      behind_return = λ g u h. return_end g u h;
    } where
      plain_end : (g : BadGame) (u : List ℕ) → are_plain u ≡ true → Finds is_last (at_line g u false) g [] (lines_of (u ++ []))
      plain_end g [] h = no_bytes is_last g false
      plain_end g (b ∷ u) h =
          last_line is_last g b u false (plain_feeds b u h)
          ∙ ap (λ (x : List (List ℕ)). place_in g (whole_lines is_last x)) (sym (plain_lines (b ∷ u) [] h ∙ put_none b u))

      some_line : (g : BadGame) (line : List ℕ) → ends_with_line_feed line ≡ false → (line ≡ [] → ⊥)
          → place_at_end is_last (at_line g line true) ≡ place_in g (whole_lines is_last (line ∷ []))
      some_line g [] h some = absurd (some refl)
      some_line g (b ∷ u) h some = last_line is_last g b u true h

      not_empty : (u : List ℕ) (b : ℕ) → u ++ b ∷ [] ≡ [] → ⊥
      not_empty u b e = grind (arith, common_steps)

      return_end : (g : BadGame) (u : List ℕ) → are_plain u ≡ true
          → Finds is_last (at_line g (u ++ 13 ∷ []) true) g [] (lines_of ((u ++ 13 ∷ []) ++ []))
      return_end g u h = grind (arith, common_steps, some_line, feed_behind, append_assoc, plain_lines, put_line)

goes_on : (is_last : Bool) (s : List ℕ) → GoesOn is_last s
goes_on is_last [] = at_end is_last
goes_on is_last (b ∷ s) =
    let on = goes_on is_last s in
    record {
      plain = λ g u h. taken is_last g u b s h on;
      behind_return = λ g u h. behind_a_return is_last g u b s h on;
    }

-- the place that is found is that of the whole lines, or of all
pub finds_place : (g : BadGame) (is_last : Bool) (text : List ℕ) → place_behind (reader_of g) is_last text ≡ place_in g (whole_lines is_last (lines_of text))
finds_place g is_last text = (goes_on is_last text).plain g [] refl

over_append : (r : LineReader) (u s : List ℕ) → reader_over (reader_over r u) s ≡ reader_over r (u ++ s)
over_append r [] s = refl
over_append r (b ∷ u) s = over_append (reader_with r b) u s

-- a piece, and the text behind it
pub reads_piece : (old new : LineReader) (is_last : Bool) (piece text : List ℕ) → new ≡ reader_over old piece
    → place_behind new is_last text ≡ place_behind old is_last (piece ++ text)
reads_piece old new is_last piece text e = grind (arith, common_steps, over_append)

-- the place so far
pub found_so_far : (r : LineReader) → r.found ≡ place_behind r false []
found_so_far r = first_or_none r.found

-- at the end of the text all lines are whole

all_whole : (lines : List (List ℕ)) → whole_lines true lines ≡ lines
all_whole [] = refl
all_whole (line ∷ []) = refl
all_whole (line ∷ next ∷ lines) = ap (λ (x : List (List ℕ)). line ∷ x) (all_whole (next ∷ lines))

pub finds_in_all : (g : BadGame) (text : List ℕ) → place_behind (reader_of g) true text ≡ place_in g (lines_of text)
finds_in_all g text = finds_place g true text ∙ ap (λ (x : List (List ℕ)). place_in g x) (all_whole (lines_of text))

-- a place that was found is that of any text behind

pub found_stays : (r : LineReader) (o : Option ℕ) → r.found ≡ o
    → IfSome o (λ place. (is_last : Bool) (text : List ℕ) → place_behind r is_last text ≡ Some place)
found_stays r None e = tt
found_stays r (Some place) e =
    λ is_last text.
    ap (λ (o : Option ℕ). place_at_end is_last (reader_over (record r { found = o }) text)) e
    ∙ ap (λ (x : LineReader). place_at_end is_last x) (stays r place text)
