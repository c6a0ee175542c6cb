-- Lists of what is given: their first game, their lines, and their texts.
use Rattle.pgn_c.proofs.Words.{common_steps, arith, ◌≡◌, Bool, true, false, List, [], ◌∷◌, ◌++◌, refl, sym, ap, ◌∙◌, append-nil, append_assoc, if◌then◌else◌, fold, Given, item, marker, shown, tags, are_lines, ends_line, first_game, first_line, given_text, has_marker, texts_behind, NoneEnds, MoveFields}

-- ---- the items up to a marker

-- without a marker in front, the first game goes on
pub game_goes_on : (gs more : List Given) → has_marker gs ≡ false → first_game (gs ++ more) ≡ gs ++ first_game more
game_goes_on [] more none = refl
game_goes_on (tags ps ∷ gs) more none = ap (λ (xs : List Given). tags ps ∷ xs) (game_goes_on gs more none)
game_goes_on (item i ∷ gs) more none = ap (λ (xs : List Given). item i ∷ xs) (game_goes_on gs more none)
game_goes_on (marker m ∷ gs) more none = cc

pub whole_game : (gs : List Given) → has_marker gs ≡ false → first_game gs ≡ gs
whole_game gs none = ap first_game (sym (append-nil gs)) ∙ game_goes_on gs [] none ∙ append-nil gs

pub marker_later : (gs more : List Given) → has_marker gs ≡ false → has_marker (gs ++ more) ≡ has_marker more
marker_later [] more none = refl
marker_later (tags ps ∷ gs) more none = marker_later gs more none
marker_later (item i ∷ gs) more none = marker_later gs more none
marker_later (marker m ∷ gs) more none = cc

-- the first game begins with the first item
pub game_begins : (g : Given) (more : List Given) → (behind : List Given) × (first_game (g ∷ more) ≡ g ∷ behind)
game_begins (tags ps) more = (first_game more, refl)
game_begins (item i) more = (first_game more, refl)
game_begins (marker m) more = ([], refl)

-- ---- lines

last_ends : (b : Bool) (gs : List Given) (g : Given) → fold (λ _ x. ends_line x) b (gs ++ g ∷ []) ≡ ends_line g
last_ends b gs g = grind (arith, common_steps)

pub lines_end : (gs : List Given) (g : Given) → are_lines (gs ++ g ∷ []) ≡ ends_line g
lines_end gs g = last_ends true gs g

pub none_more : (gs : List Given) (g : Given) → NoneEnds gs → ends_line g ≡ false → NoneEnds (gs ++ g ∷ [])
none_more [] g none ends = (ends, tt)
none_more (x ∷ gs) g none ends = (none.0, none_more gs g none.1 ends)

-- a line goes on behind items that do not end it
pub line_goes_on : (gs more : List Given) → NoneEnds gs → first_line (gs ++ more) ≡ gs ++ first_line more
line_goes_on [] more none = refl
line_goes_on (x ∷ gs) more none = grind (arith, common_steps, (line_goes_on gs more none.1))

-- the first line begins with the first item
pub line_begins : (g : Given) (more : List Given) → (behind : List Given) × (first_line (g ∷ more) ≡ g ∷ behind)
line_begins g more = by (ends_line g)
  where
    by : (ends : Bool) → (behind : List Given) × ((if ends then g ∷ [] else g ∷ first_line more) ≡ g ∷ behind)
    by true = ([], refl)
    by false = (first_line more, refl)

-- ---- texts

pub texts_of_both : (f : MoveFields) (given gs more : List Given)
    → texts_behind f given (gs ++ more) ≡ texts_behind f given gs ++ texts_behind f (given ++ gs) more
texts_of_both f given [] more = ap (λ (xs : List Given). texts_behind f xs more) (sym (append-nil given))
texts_of_both f given (g ∷ gs) more = grind (arith, common_steps, append_assoc, (texts_of_both f (given ++ g ∷ []) gs more))

pub one_more_text : (f : MoveFields) (given gs : List Given) (g : Given)
    → texts_behind f given (gs ++ g ∷ []) ≡ texts_behind f given gs ++ given_text f (shown (given ++ gs)) g
one_more_text f given gs g = grind (arith, common_steps, texts_of_both, append-nil)
