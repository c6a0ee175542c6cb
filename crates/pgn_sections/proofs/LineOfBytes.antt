-- What the code keeps of a line, byte by byte, shows what the line shows.
use Rattle.std.proofs.Common.{rules}
use Rattle.pgn_sections.proofs.Words.{and-false, ◌≡◌, ℕ, ◌+◌, ◌-◌, ◌≤◌, Bool, true, false, List, [], ◌∷◌, Option, None, Some, length, drop, refl, sym, ◌∙◌, ap, ap₂, arith, true≢false, common_steps, length-drop, ◌&&◌, ◌||◌, ◌==◌, not, nat_le, is_some, if◌then◌else◌, list_all, option_and_then, is_space, has_mark, before_escapes, behind_line, behind_mark, behind_tags, end_at, end_by, end_in_comment, end_outside, first_escape, place_above, place_on, with_text, with_text_line, begins_with, end_before, front_in, has_mark_at, is_whole_mark, line_begun, line_over, line_with, ends_with_tag, is_byte, last_text, open_comment, outside_text, without_comments, front_with, behind_pair, behind_stray, tag_line, tag_found, comment_of, nothing_read, outside_of, text_from, BadGame, Anywhere, InComments, Nowhere, Line, Braces, Closed, FrontOfLine, Missing, TagLine, TagSearch, Text}
use Rattle.pgn_sections.proofs.MarkOfLine.{mark_is, mark_over}
use Rattle.pgn_sections.proofs.PairsOfLine.{front_outside, front_over, none_ends, pairs_short}
use Rattle.pgn_sections.proofs.TagOfLine.{finds_tag, tag_over}
use Rattle.pgn_sections.proofs.TextOfLine.{comment_is, outside_is}
use Rattle.pgn_sections.specs.Line as kept
use Rattle.pgn_sections.specs.declared.bad_game.Ends.{Ends}
use Rattle.pgn_sections.specs.declared.outside.OutsideText.{OutsideText}

-- the parts of what is kept

tag_kept : (l : Line) (s : List ℕ) → (line_over l s).tag ≡ tag_over l.tag l.length s
tag_kept l [] = refl
tag_kept l (b ∷ s) = tag_kept (line_with l b) s

last_kept : (l : Line) (s : List ℕ) → (line_over l s).last ≡ last_text l.last s
last_kept l [] = refl
last_kept l (b ∷ s) = last_kept (line_with l b) s

mark_kept : (l : Line) (s : List ℕ) → (line_over l s).mark ≡ mark_over l.mark_at l.mark l.length s
mark_kept l [] = refl
mark_kept l (b ∷ s) = mark_kept (line_with l b) s

mark_at_kept : (l : Line) (s : List ℕ) → (line_over l s).mark_at ≡ l.mark_at
mark_at_kept l [] = refl
mark_at_kept l (b ∷ s) = mark_at_kept (line_with l b) s

pub length_kept : (l : Line) (s : List ℕ) → (line_over l s).length ≡ l.length + length s
length_kept l [] = omega arith
length_kept l (b ∷ s) = let e = length_kept (line_with l b) s in omega (arith, e)

front_kept : (l : Line) (p : ℕ) (s : List ℕ) → l.at + l.length ≡ p → (line_over l s).front ≡ front_over l.front p s
front_kept l p [] e = refl
front_kept l p (b ∷ s) e =
    let next : l.at + (l.length + 1) ≡ p + 1 = omega arith in
    front_kept (line_with l b) (p + 1) s next ∙ ap (λ (k : ℕ). front_over (front_with l.front k b) (p + 1) s) e

first_stays : (l : Line) (b : ℕ) (s : List ℕ) → l.first ≡ Some b → (line_over l s).first ≡ Some b
first_stays l b [] e = e
first_stays l b (c ∷ s) e =
    first_stays (line_with l c) b s (ap (λ (o : Option ℕ). if is_some o then o else Some c) e)

first_is : (g : BadGame) (line : List ℕ) → is_byte 37 (line_over (line_begun g) line).first ≡ begins_with 37 line
first_is g line = search (rules, first_stays)

-- a line is empty if it has no byte but white space

text_or : (t : Bool) (b c : ℕ) (s : List ℕ) → is_some (last_text (Some b) s) ≡ true → is_some (last_text (Some c) s) ≡ true
    → is_some (last_text (if t then Some b else Some c) s) ≡ true
text_or t b c s h k = grind (arith, common_steps)

text_stays : (b : ℕ) (s : List ℕ) → is_some (last_text (Some b) s) ≡ true
text_stays b [] = refl
text_stays b (c ∷ s) = text_or (is_space c) b c s (text_stays b s) (text_stays c s)

blank_or : (t : Bool) (b : ℕ) (s : List ℕ) → not (is_some (last_text None s)) ≡ list_all is_space s
    → not (is_some (last_text (if t then None else Some b) s)) ≡ (t && list_all is_space s)
blank_or t b s h = grind (arith, common_steps, text_stays)

blank_is : (line : List ℕ) → not (is_some (last_text None line)) ≡ list_all is_space line
blank_is [] = refl
blank_is (b ∷ s) = blank_or (is_space b) b s (blank_is s)

-- text in a comment, and outside

abbrev with_front : BadGame → FrontOfLine → BadGame
with_front g f = with_text g f.has_pair (comment_of f.text) (outside_of f.text)

text_is : (g : BadGame) (o : Option ℕ) (line : List ℕ)
    → with_front g (front_over (front_in o) g.at line)
    ≡ (if is_some o
    then with_text g false (open_comment Braces o g.at line) (outside_text (without_comments Braces line))
    else with_text g (is_some (behind_pair (behind_stray line)))
    (open_comment Closed None (g.at + (length line - length (behind_tags line))) (behind_tags line))
    (outside_text (without_comments Closed (behind_tags line))))
text_is g None line =
    let q = g.at + (length line - length (behind_tags line)) in
    let e : q + length (behind_tags line) ≡ g.at + length line = omega (arith, pairs_short line) in
    let k = front_outside g.at q line e in
    ap₂ (λ (h : Bool) (t : Text). with_text g h (comment_of t) (outside_of t)) k.has_pair k.text
    ∙ ap₂ (λ (c : Option ℕ) (t : OutsideText). with_text g (is_some (behind_pair (behind_stray line))) c t)
    (comment_is nothing_read q (behind_tags line)) (outside_is Closed None q (behind_tags line))
text_is g (Some place) line =
    let k = none_ends Missing false (text_from Braces (Some place)) g.at line refl refl in
    ap₂ (λ (h : Bool) (t : Text). with_text g h (comment_of t) (outside_of t)) k.has_pair k.text
    ∙ ap₂ (λ (c : Option ℕ) (t : OutsideText). with_text g false c t)
    (comment_is (text_from Braces (Some place)) g.at line) (outside_is Braces (Some place) g.at line)

-- the game behind a line
pub game_is : (g : BadGame) (line : List ℕ) → kept.behind_line g (line_over (line_begun g) line) ≡ behind_line g line
game_is g line =
    let l = line_over (line_begun g) line in
    let blank : not (is_some l.last) ≡ list_all is_space line = ap (λ (o : Option ℕ). not (is_some o)) (last_kept (line_begun g) line) ∙ blank_is line in
    let place : g.at + 0 ≡ g.at = omega arith in
    let text : with_front g l.front ≡ with_text_line g line =
    ap (λ (f : FrontOfLine). with_front g f) (front_kept (line_begun g) g.at line place) ∙ text_is g g.comment_at line in
    let count : l.length ≡ length line = (let e = length_kept (line_begun g) line in omega (arith, e)) in
    ap₂ (λ (t f : Bool).
    record (if t then record g { is_behind_empty_line = true }
    else if not (is_some g.comment_at) && f then record g { escapes_at = Some (first_escape g.escapes_at g.at) }
    else with_front g l.front) { at = g.at + l.length }) blank (first_is g line)
    ∙ ap₂ (λ (w : BadGame) (n : ℕ).
    record (if list_all is_space line then record g { is_behind_empty_line = true }
    else if not (is_some g.comment_at) && begins_with 37 line then record g { escapes_at = Some (first_escape g.escapes_at g.at) }
    else w) { at = g.at + n }) text count

-- Where the game ends: before the line or at its tag.

outside_same : (g : BadGame) (line : List ℕ) (o : Option TagLine) → kept.end_outside g (ends_with_tag line) o ≡ end_outside g line o
outside_same g line o = grind (arith, common_steps)

module _ (g : BadGame) (line : List ℕ) where
  abbrev l : Line
  l = line_over (line_begun g) line

  tag_is : tag_found l.tag ≡ tag_line line
  tag_is = ap (λ (t : TagSearch). tag_found t) (tag_kept (line_begun g) line) ∙ (finds_tag line).tag

  bracket_is : is_byte 93 l.last ≡ ends_with_tag line
  bracket_is = ap (λ (o : Option ℕ). is_byte 93 o) (last_kept (line_begun g) line)

  end_is : (e : Ends) → kept.end_by e g l ≡ end_by e g line
  end_is e = grind (arith, common_steps, is_some, bracket_is, tag_is, outside_same)

data EndsAt (g : BadGame) (o : Option TagLine) (end : ℕ) : Type 0 where
  before : end ≡ end_before g → EndsAt g o end
  at_tag : (tag : TagLine) → o ≡ Some tag → end ≡ g.at + tag.at → EndsAt g o end

is_end : (t : Bool) (a end : ℕ) → (if t then Some a else None) ≡ Some end → end ≡ a
is_end t a end e = grind (arith, common_steps)

comment_ends : (g : BadGame) (o : Option TagLine) (end : ℕ) → end_in_comment g o ≡ Some end → EndsAt g o end
comment_ends g None end e = absurd cc
comment_ends g (Some tag) end e = at_tag tag refl (is_end (tag.is_quoted && (g.has_movetext || g.is_behind_empty_line)) (g.at + tag.at) end e)

escapes_end : (g : BadGame) (tag : TagLine) (end : ℕ) (escapes : Option ℕ) → escapes ≡ g.escapes_at
    → end ≡ before_escapes g.fault escapes (g.at + tag.at) → EndsAt g (Some tag) end
escapes_end g tag end None h e = at_tag tag refl e
escapes_end g tag end (Some place) h e = by_fault (nat_le place g.fault) refl where
  by_fault : (t : Bool) → nat_le place g.fault ≡ t → EndsAt g (Some tag) end
  by_fault true k = at_tag tag refl (e ∙ ap (λ (t : Bool). if t then g.at + tag.at else place) k)
  by_fault false k = grind (arith, common_steps)

outside_ends : (g : BadGame) (line : List ℕ) (o : Option TagLine) (end : ℕ) → end_outside g line o ≡ Some end → EndsAt g o end
outside_ends g line None end e = before (is_end (g.has_movetext && g.is_behind_empty_line && ends_with_tag line) (end_before g) end e)
outside_ends g line (Some tag) end e =
    by_tests (g.has_movetext || (g.has_tags && g.is_behind_empty_line && tag.is_event)) (not g.has_tags && nat_le g.fault (g.at + tag.at)) e where
      by_tests : (t u : Bool)
          → (if t then Some (before_escapes g.fault g.escapes_at (g.at + tag.at)) else if u then Some (g.at + tag.at) else None) ≡ Some end
          → EndsAt g (Some tag) end
      by_tests true u h = escapes_end g tag end g.escapes_at refl (is_end true (before_escapes g.fault g.escapes_at (g.at + tag.at)) end h)
      by_tests false u h = at_tag tag refl (is_end u (g.at + tag.at) end h)

if_ends : (t : Bool) (g : BadGame) (o : Option TagLine) (x y : Option ℕ) (end : ℕ) → (x ≡ Some end → EndsAt g o end) → (y ≡ Some end → EndsAt g o end)
    → (if t then x else y) ≡ Some end → EndsAt g o end
if_ends true g o x y end h k e = h e
if_ends false g o x y end h k e = k e

ends_at : (e : Ends) (g : BadGame) (line : List ℕ) (end : ℕ) → end_by e g line ≡ Some end → EndsAt g (tag_line line) end
ends_at Anywhere g line end h = search (rules, if_ends, comment_ends, outside_ends)
ends_at InComments g line end h =
    if_ends (is_some g.comment_at) g (tag_line line) (end_in_comment g (tag_line line)) None end
    (comment_ends g (tag_line line) end) (λ k. absurd cc) h
ends_at Nowhere g line end h = absurd cc

-- a mark lies on the line

mark_long : (s : List ℕ) → has_mark s ≡ true → 3 ≤ length s
mark_long s h = grind (arith, common_steps, true≢false)

mark_within : (n : ℕ) (line : List ℕ) → (nat_le (n + 3) (length line) && has_mark (drop n line)) ≡ has_mark (drop n line)
mark_within n line = by_mark (has_mark (drop n line)) refl where
  by_mark : (t : Bool) → has_mark (drop n line) ≡ t → (nat_le (n + 3) (length line) && t) ≡ t
  by_mark true h =
      let k = mark_long (drop n line) h in
      let long : n + 3 ≤ length line = omega (arith, k, length-drop n line) in
      let e : nat_le (n + 3) (length line) ≡ true = grind (arith, common_steps) in
      ap (λ (t : Bool). t && true) e
  by_mark false h = and-false (nat_le (n + 3) (length line))

module _ (g : BadGame) (line : List ℕ) where
  abbrev seen : Line
  seen = line_over (line_begun g) line

  sought : is_whole_mark seen.mark ≡ has_mark (drop (end_before g - g.at) line)
  sought = grind (arith, common_steps, mark_kept, mark_is)

  -- The mark at this place of the line is the one that was looked for, or that of the tag.
  at_place : (n : ℕ) → ((n == (end_before g - g.at)) ≡ false → seen.tag.is_marked ≡ has_mark (drop n line)) → has_mark_at seen n ≡ has_mark (drop n line)
  at_place n other =
      let count : seen.length ≡ length line = (let e = length_kept (line_begun g) line in omega (arith, e)) in
      ap₂ (λ (k m : ℕ). nat_le (n + 3) k && (if n == m then is_whole_mark seen.mark else seen.tag.is_marked)) count (mark_at_kept (line_begun g) line)
      ∙ ap (λ (t : Bool). nat_le (n + 3) (length line) && t) (by_place (n == (end_before g - g.at)) refl)
      ∙ mark_within n line where
        by_place : (t : Bool) → (n == (end_before g - g.at)) ≡ t → (if t then is_whole_mark seen.mark else seen.tag.is_marked) ≡ has_mark (drop n line)
        by_place t e = grind (arith, common_steps, sought)

  mark_at_end : (end : ℕ) → EndsAt g (tag_line line) end → has_mark_at seen (end - g.at) ≡ has_mark (drop (end - g.at) line)
  mark_at_end end (before e) = grind (arith, common_steps, at_place, true≢false)
  mark_at_end end (at_tag tag found e) =
      let n : end - g.at ≡ tag.at = omega (arith, e) in
      let f = finds_tag line in
      at_place (end - g.at) (λ h.
      ap (λ (t : TagSearch). t.is_marked) (tag_kept (line_begun g) line)
      ∙ f.mark tag (f.tag ∙ found)
      ∙ sym (ap (λ (k : ℕ). has_mark (drop k line)) n))

  behind_mark_is : (end : ℕ) → EndsAt g (tag_line line) end → kept.behind_mark g seen end ≡ behind_mark g line end
  behind_mark_is end h = ap (λ (t : Bool). if nat_le g.at end && t then end + 3 else end) (mark_at_end end h)

  -- where reading goes on
  pub place_is : kept.place_on g seen ≡ place_on g line
  place_is =
      ap (λ (o : Option ℕ). option_and_then (λ end. place_above g.begin (kept.behind_mark g seen end)) o) (end_is g line g.ends)
      ∙ by_end (end_at g line) refl where
        by_end : (o : Option ℕ) → end_at g line ≡ o
            → option_and_then (λ end. place_above g.begin (kept.behind_mark g seen end)) o ≡ option_and_then (λ end. place_above g.begin (behind_mark g line end)) o
        by_end None e = refl
        by_end (Some end) e = ap (λ (k : ℕ). place_above g.begin k) (behind_mark_is end (ends_at g.ends g line end e))

pub place_shown : (g : BadGame) (line : List ℕ) (l : Line) (o : Option ℕ) → l ≡ line_over (line_begun g) line → kept.place_on g l ≡ o
    → place_on g line ≡ o
place_shown g line l o e h = sym (place_is g line) ∙ ap (λ (l : Line). kept.place_on g l) (sym e) ∙ h

pub line_read : (g : BadGame) (line : List ℕ) (l : Line) (new : BadGame) → l ≡ line_over (line_begun g) line → new ≡ kept.behind_line g l
    → new ≡ behind_line g line
line_read g line l new e h = h ∙ ap (λ (l : Line). kept.behind_line g l) e ∙ game_is g line
