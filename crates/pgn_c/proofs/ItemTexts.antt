-- The text of the item given last is that of the definitions.
use Rattle.pgn_c.proofs.Words.{rules, common_steps, arith, ◌≡◌, ℕ, true, List, [], ◌∷◌, ◌++◌, codes, Option, None, Some, refl, sym, ap, subst, ◌∙◌, append-nil, IsSomeAnd, decimal, option_map, fold-append, Given, Shown, marker, shown, shown_with, tags, Current, IsBehindTags, IsHeld, IsShown, given_as, given_if, given_next, position_before_move, shown_move, shown_position, shown_san, shown_uci, shown_word, ends_line, field, first_game, given_text, has_marker, move_line, code_ends, code_move, front_text, is_marker, MoveFields}
use Rattle.chess_rules.specs.declared.position.Move.{Move}
use Rattle.chess_rules.specs.declared.position.Parts.{Parts}
use Rattle.chess_text.specs.San.{san}
use Rattle.chess_text.specs.Uci.{uci}
use Rattle.pgn_game.specs.declared.item.Item.{Item as CodeItem}
use Rattle.pgn_game.specs.declared.item.Item.TheVariants as items
use Rattle.pgn_game.specs.games.Game as games
use Rattle.pgn_game.specs.games.Levels.{here, levels_of, start_of}
use Rattle.pgn_game.specs.games.Pairs.{Pair}

tags_text : (f : MoveFields) (o : Option Shown) (ps : List Pair) → given_text f o (tags ps) ≡ []
tags_text f o ps = grind (arith, common_steps)

marker_line : (f : MoveFields) (o : Option Shown) (m : List ℕ) → given_text f o (marker m) ≡ codes "R" ++ field m ++ 10 ∷ []
marker_line f o m = grind (arith, common_steps)

-- ---- a move

module _ (f : MoveFields) (c : Current) (m : Move) (s : Shown) (last : c.last ≡ Some (items.Move m)) (none : c.pending ≡ None)
    (held : IsHeld c (record { pairs = s.pairs; items = s.items ++ games.move m ∷ []; marker = s.marker })) where
  abbrev start : Parts
  start = start_of s.pairs

  abbrev before : Parts
  before = here start (levels_of s.items)

  abbrev next : Parts
  next = here start (levels_of (s.items ++ games.move m ∷ []))

  before_is : c.reading.text.levels.current.before ≡ Some before
  before_is = grind (arith, common_steps, fold-append)

  number_is : position_before_move c ≡ Some before
  number_is = ap (λ (o : Option CodeItem). elim (shown_move o) [ None ↦ None | Some x ↦ c.reading.text.levels.current.before ]) last ∙ before_is

  san_is : shown_san c ≡ Some (san before m)
  san_is = grind (arith, common_steps, before_is)

  uci_is : shown_uci c ≡ Some (uci m)
  uci_is = ap (λ (o : Option CodeItem). option_map uci (shown_move o)) last

  position_is : shown_position c ≡ Some next
  position_is = grind (arith, common_steps)

  move_text : move_line f before m next ≡ code_move f c
  move_text = grind (arith, common_steps, codes, number_is, san_is, uci_is, position_is)

-- ---- any item

-- the word that an item is
abbrev word_of : Current → CodeItem → List ℕ
word_of c items.Word = c.word
word_of c _ = []

word_is : (c : Current) (i : CodeItem) → c.last ≡ Some i → shown_word c ≡ word_of c i
word_is c i last = grind (arith, common_steps)

module _ (f : MoveFields) (c : Current) (given : List Given) where
  shown_more : (gs : List Given) (g : Given) → shown (gs ++ g ∷ []) ≡ shown_with (shown gs) g
  shown_more gs g = fold-append shown_with None gs (g ∷ [])

  text_behind : (i : CodeItem) (o : Option Shown) → c.last ≡ Some i → IsBehindTags c.pending c.last → IsSomeAnd (shown_with o (given_as c i)) (IsShown c)
      → (c.pending ≡ None → IsSomeAnd (shown_with o (given_as c i)) (IsHeld c)) → given_text f o (given_as c i) ≡ front_text f c i ++ word_of c i
  text_behind items.Tags o last at shows held = tags_text f o c.reading.tags.held
  text_behind (items.Marker m) o last at shows held = grind (arith, common_steps, marker_line, append-nil, codes)
  text_behind i None last at shows held = grind (arith, common_steps)
  text_behind (items.Move m) (Some s) last at shows held = search (rules, move_text, append-nil)
  text_behind (items.Glyph n) (Some s) last at shows held = sym (append-nil (codes "G" ++ field (decimal n) ++ 10 ∷ []))
  text_behind items.CommentOpen (Some s) last at shows held = refl
  text_behind items.Word (Some s) last at shows held = refl
  text_behind items.CommentClose (Some s) last at shows held = refl
  text_behind items.Open (Some s) last at shows held = refl
  text_behind items.Close (Some s) last at shows held = refl

  pub text_is : (i : CodeItem) → c.last ≡ Some i → IsBehindTags c.pending c.last
      → IsSomeAnd (shown (given ++ given_as c i ∷ [])) (IsShown c) → IsSomeAnd (shown ((given ++ given_as c i ∷ []) ++ given_next c)) (IsHeld c)
      → given_text f (shown given) (given_as c i) ≡ front_text f c i ++ shown_word c
  text_is i last at shows held =
      text_behind i (shown given) last at (subst (λ (o : Option Shown). IsSomeAnd o (IsShown c)) (shown_more given (given_as c i)) shows)
      (λ none. subst (λ (o : Option Shown). IsSomeAnd o (IsHeld c)) (shown_more given (given_as c i))
      (subst (λ (gs : List Given). IsSomeAnd (shown gs) (IsHeld c))
      (ap (λ (o : Option CodeItem). (given ++ given_as c i ∷ []) ++ given_if c o) none ∙ append-nil (given ++ given_as c i ∷ [])) held))
      ∙ ap (λ (w : List ℕ). front_text f c i ++ w) (sym (word_is c i last))

-- whether a line ends with the item, and whether it is a marker
pub line_ends : (c : Current) (i : CodeItem) → ends_line (given_as c i) ≡ code_ends i
line_ends c i = grind (arith, common_steps)

pub marks : (c : Current) (i : CodeItem) → has_marker (given_as c i ∷ []) ≡ is_marker i
marks c i = grind (arith, common_steps)

-- a marker ends the first game
pub marker_only : (c : Current) (i : CodeItem) (more : List Given) → is_marker i ≡ true → first_game (given_as c i ∷ more) ≡ given_as c i ∷ []
marker_only c i more is = grind (arith, common_steps)
