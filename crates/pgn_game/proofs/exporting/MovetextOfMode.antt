-- The movetext that is written, of all items or of the moves outside variations: it spells the
-- items that are kept, and these are written in the same way again.
use Rattle.pgn_game.proofs.Words.{◌≡◌, ℕ, suc, ◌+◌, Bool, false, cond, List, [], ◌∷◌, ◌++◌, map, refl, ap, subst, ◌∙◌, arith, ◌==◌, filter, fold, IsTrue, AllByRecursion, ne_eqb, filter-append, fold-append, is_position, IsSoundKind, CommentsClose, Parts, Kind, Mode, Full, Reduced, Item, Profile, Level, Levels, levels_after, first_level, here, main_moves, outermost, without_last, SpellsText, no_more, token, move, variation, new_level, Placed, placed_from, is_main_move, written_items, tokens_from, tokens_out, rules}
use Rattle.pgn_lexer.specs.Tokens as tokens
use Rattle.pgn_game.specs.games.Game as game
use Rattle.pgn_game.proofs.AllOfJoined.{all_behind}
use Rattle.pgn_game.proofs.exporting.PiecesToTokens.{IsWritable, AllShown}
use Rattle.pgn_game.proofs.exporting.MovetextToItems.{level_in, aside, around_again, close_at, placed_variation, rewritten}
use Rattle.pgn_game.proofs.exporting.MoveTextToMove.{MoveLaws}

-- Inside variations no move is one outside them.
inside : (n : ℕ) → (suc n == 0) ≡ false
inside n = ne_eqb _ 0 (λ e. absurd (omega arith))

none_main : {p : Profile} {first : Parts} {deep : ℕ} {l : Level} {ks : List Kind} {items : List Item}
    → SpellsText p first deep l ks items → (m : Level) (around : List Level)
    → filter is_main_move (placed_from first (level_in l (m ∷ around)) items) ≡ []
none_main (no_more deep l) m around = refl
none_main {first} (token deep l k ks item items stands rest) m around = (aside items first (level_in l _) stands).1 ∙ none_main rest m around
none_main (move deep l s x ks items names rest) m around = rw (inside _) (none_main rest m around)
none_main {first} (variation deep l ks ls items more holds room inner rest) m around =
    let at = level_in (new_level (without_last l.trail)) (l ∷ m ∷ around) in
    let end = fold levels_after at items in
    ap (filter is_main_move) (placed_variation deep l more inner _)
    ∙ filter-append is_main_move (placed_from first at items) (close_at first end ∷ placed_from first (level_in l _) more)
    ∙ ap (λ xs. xs ++ filter is_main_move (placed_from first (level_in l (m ∷ around)) more))
    (none_main inner l (m ∷ around)) ∙ none_main rest m around

-- The moves outside variations.
abbrev placed_main : Parts → Level → List Item → List Placed
placed_main first l items = filter is_main_move (placed_from first (level_in l []) items)

abbrev main_items : Parts → Level → List Item → List Item
main_items first l items = map (λ i. i.item) (placed_main first l items)

-- a variation leaves none
module _ {p : Profile} {first : Parts} (deep : ℕ) (l : Level) {ks : List Kind} {items : List Item} (more : List Item) where
  main_variation : SpellsText p first (deep + 1) (new_level (without_last l.trail)) ks items
      → placed_main first l (game.open_variation ∷ (items ++ game.close_variation ∷ more)) ≡ placed_main first l more
  main_variation inner = grind (arith, filter-append, placed_variation, none_main)

  levels_variation : SpellsText p first (deep + 1) (new_level (without_last l.trail)) ks items → fold levels_after (level_in l [])
      (game.open_variation ∷ (items ++ game.close_variation ∷ more)) ≡ fold levels_after (level_in l []) more
  levels_variation inner = grind (arith, fold-append, around_again)

-- They are spelled by their symbols alone, lead to the same levels, and have the same places.
record Main (p : Profile) (first : Parts) (deep : ℕ) (l : Level) (items : List Item) : Type 0 where
  kinds : List Kind
  spells : SpellsText p first deep l kinds (main_items first l items)
  sound : AllByRecursion IsSoundKind kinds
  closes : (more : List Kind) → CommentsClose false more → CommentsClose false (kinds ++ more)
  placed : placed_from first (level_in l []) (main_items first l items) ≡ placed_main first l items
  levels : fold levels_after (level_in l []) (main_items first l items) ≡ fold levels_after (level_in l []) items

-- items that add no move outside variations, before others
main_same : {p : Profile} {first : Parts} {deep : ℕ} {l : Level} {items : List Item} (more : List Item)
    → placed_main first l items ≡ placed_main first l more
    → fold levels_after (level_in l []) items ≡ fold levels_after (level_in l []) more → Main p first deep l more → Main p first deep l items
main_same more e same r = search rules

main : {p : Profile} {first : Parts} {deep : ℕ} {l : Level} {ks : List Kind} {items : List Item}
    → SpellsText p first deep l ks items → AllByRecursion IsSoundKind ks → Main p first deep l items
main (no_more deep l) sound = record { kinds = []; spells = no_more deep l; sound = tt; closes = λ more h. h; placed = refl; levels = refl }
main {first} (token deep l k ks item items stands rest) sound = search (rules, aside, level_in, main_same, (main rest sound.1))
main {first} (move deep l s x ks items names rest) sound =
    let r = main rest sound.1 in
    let this : Placed = record { position = here first (level_in l []); depth = 0; item = game.move x.mv } in
    record {
      kinds = tokens.symbol s ∷ r.kinds;
      spells = move deep l s x r.kinds (main_items first _ items) names r.spells;
      sound = (sound.0, r.sound);
      closes = r.closes;
      placed = rw r.placed;
      levels = r.levels;
    }
main (variation deep l ks ls items more holds room inner rest) sound =
    main_same more (main_variation deep l more inner) (levels_variation deep l more inner)
    (main rest (all_behind IsSoundKind ks (tokens.right_paren ∷ ls) sound.1).1)

abbrev pub kept : Mode → Parts → List Item → List Item
kept mode first items = map (λ i. i.item) (written_items mode (placed_from first first_level items))

all_kept : (first : Parts) (ls : Levels) (items : List Item) → map (λ i. i.item) (placed_from first ls items) ≡ items
all_kept first ls [] = refl
all_kept first ls (x ∷ xs) = cc (all_kept first (levels_after ls x) xs)

kept_again : (x : Placed) (xs : List Placed) (b : Bool) → is_main_move x ≡ b
    → filter is_main_move (filter is_main_move xs) ≡ filter is_main_move xs
    → filter is_main_move (cond b (x ∷ filter is_main_move xs) (filter is_main_move xs))
    ≡ cond b (x ∷ filter is_main_move xs) (filter is_main_move xs)
kept_again x xs b e rest = search rules

filter_again : (xs : List Placed) → filter is_main_move (filter is_main_move xs) ≡ filter is_main_move xs
filter_again [] = refl
filter_again (x ∷ xs) = kept_again x xs _ refl (filter_again xs)

-- The text that is written spells what is kept, in the place of the text that was read.
pub record KeptText (mode : Mode) (p : Profile) (first : Parts) (ks : List Kind) (items : List Item) : Type 0 where
  pub kinds : List Kind
  pub spells : SpellsText p first 0 (new_level []) kinds (kept mode first items)
  pub shown : AllShown kinds (tokens_out mode first items)
  pub writable : AllByRecursion IsWritable kinds
  pub closes : (more then : List Kind) → ((d : Bool) → CommentsClose d more → CommentsClose d then)
      → CommentsClose false then → CommentsClose false (ks ++ more) → CommentsClose false (kinds ++ then)
  pub again : tokens_out mode first (kept mode first items) ≡ tokens_out mode first items
  pub moves : main_moves (kept mode first items) ≡ main_moves items

module _ (laws : MoveLaws) where
  pub kept_text : (mode : Mode) {p : Profile} (first : Parts) {ks : List Kind} (items : List Item) → IsTrue (is_position first)
      → SpellsText p first 0 (new_level []) ks items → AllByRecursion IsSoundKind ks → KeptText mode p first ks items
  kept_text Full first items start text sound =
      let r = rewritten laws text start sound [] false in
      let same = all_kept first first_level items in
      record {
        kinds = r.kinds;
        spells = (rw same r.spells);
        shown = r.shown;
        writable = r.writable;
        closes = λ more then f h. r.closes false more then f;
        again = ap (tokens_out Full first) same;
        moves = ap main_moves same;
      }
  kept_text Reduced first items start text sound =
      let m = main text sound in
      let r = rewritten laws m.spells start m.sound [] false in
      record {
        kinds = r.kinds;
        spells = r.spells;
        shown = subst (AllShown _) (ap (tokens_from false) m.placed) r.shown;
        writable = r.writable;
        closes = λ more then f h k. r.closes false then then (λ d x. x) (m.closes then h);
        again = cc (m.placed, filter_again (placed_from first _ items));
        moves = ap (λ ls. (outermost ls.current ls.around).trail) m.levels;
      }
