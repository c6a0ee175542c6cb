-- What the tokens of movetext are rejected for, and where they lead, for a part that is open.
use Rattle.pgn_game.proofs.Words.{leb-false, ◌≡◌, IsFalse, ℕ, Bool, true, false, ◌&&◌, ◌||◌, not, List, [], ◌∷◌, length, nat_le, Option, None, Some, Bor, refl, sym, ap, ◌∙◌, arith, is_some, ◌==◌, Result, Ok, Err, bytes_eq, codes, unwrap_or, length-map, or_right, or_from, option_copied, NoMove, Ambiguous, Kind, asterisk, symbol, Parts, Played, SanFault, Reason, NotAMove, IllegalMove, AmbiguousMove, MoveLimit, MarkerInVariation, ResultDiffers, Profile, Missing, Pair, value_of, Part, move_of, Level as ModelLevel, depth, start_of, marker_of, is_number, is_score, is_at_limit, levels_of_part, position_in, result_for, Next, going, whole, in_text, move_item, before_last, stored_level, GameState, is_outside_the_table, IsOpen, game_of, or_else, text_refusal, with_items, found_in, rules, common_steps}
use Rattle.pgn_game.specs.games.Game as game
use Rattle.pgn_game.proofs.refusals.RefusalsByStage.{hit, pass, symbol_rows}

-- The levels.

some_before : (start : Parts) (l : ModelLevel) → is_some (before_last start l) ≡ l.has_own_move
some_before start l = grind arith

module _ (old : GameState) (part : Part) where
  pub holds_is : IsOpen old part → is_some old.text.levels.current.before ≡ (levels_of_part part).current.has_own_move
  holds_is is = grind (arith, some_before)

  pub depth_is : IsOpen old part → length old.text.levels.around ≡ depth (levels_of_part part)
  depth_is is = cc (length-map (levels_of_part part).around (stored_level (start_of part.pairs)))

  pub position_is : IsOpen old part → old.text.levels.current.position ≡ position_in part
  position_is is = rw is.held.levels

-- Symbols.

-- a marker that is at no depth, and no other result there
pub same_at_zero : (other : Bool) (deep : ℕ) → nat_le 1 deep ≡ false → (other && (deep == 0)) ≡ false → other ≡ false
same_at_zero other deep shallow same = grind (arith, leb-false)

abbrev pub MoveReading : Type 0
MoveReading = Option (Result Played SanFault)

abbrev pub marker_if : Bool → List ℕ → Option (List ℕ)
marker_if score s = elim score [ true ↦ Some s | false ↦ None ]

abbrev pub other_if : Missing → List Pair → Option (List ℕ) → Bool
other_if missing ps o =
    elim o [ None ↦ false | Some marker ↦ not (bytes_eq marker (unwrap_or (value_of ps (codes "Result")) (result_for missing marker))) ]

-- the rows for a symbol, of whether it is a number or a marker, whether it is a marker, and what it
-- comes to as a move
abbrev pub rows_for : Profile → Part → List ℕ → Bool → Bool → MoveReading → Option Reason
rows_for p part s word score r =
    symbol_rows word r (is_at_limit (position_in part)) (depth (levels_of_part part))
    (other_if p.missing_result part.pairs (marker_if score s)) (is_some (marker_if score s))

pub symbol_refusal : (p : Profile) (part : Part) (s : List ℕ) (word : Bool) {score : Bool}
    → (is_number s || is_score s) ≡ word → is_score s ≡ score
    → text_refusal p part (symbol s) ≡ rows_for p part s word score (move_of (position_in part) s)
symbol_refusal p part s word w e = cc

abbrev pub symbol_next : Part → List ℕ → Bool → Bool → MoveReading → Next
symbol_next part s number score r =
    elim (marker_if score
    s) [ Some marker ↦ whole (game_of part marker) | None ↦ going (with_items part (elim number [ true ↦ [] | false ↦ move_item r ])) ]

pub symbol_leads : (part : Part) (s : List ℕ) (number : Bool) {score : Bool} → is_number s ≡ number → is_score s ≡ score
    → in_text part (symbol s) ≡ symbol_next part s number score (move_of (position_in part) s)
symbol_leads part s number n e = cc

abbrev pub refused_as : Parts → MoveReading → Option Reason
refused_as p None = Some NotAMove
refused_as p (Some (Err NoMove)) = Some IllegalMove
refused_as p (Some (Err Ambiguous)) = Some AmbiguousMove
refused_as p (Some (Ok played)) = or_else (is_at_limit p) MoveLimit None

module _ (p : Profile) (part : Part) (s : List ℕ) where
  move_rows : (r : MoveReading) → rows_for p part s false false r ≡ refused_as (position_in part) r
  move_rows r = search rules

  pub move_refusal : is_number s ≡ false → is_score s ≡ false → text_refusal p part (symbol s) ≡ refused_as (position_in part)
      (move_of (position_in part) s)
  move_refusal number score = search (rules, move_rows, or_from, symbol_refusal)

found_free : (p : Parts) {r : MoveReading} {played : Played} → found_in p r ≡ Ok played → (refused_as p r ≡ None) × (r ≡ Some (Ok played))
found_free p h3 = grind (arith, pass)

-- a reason of the table is the one that was met
met : {known reason : Reason} → is_outside_the_table known ≡ false → known ≡ reason
    → (Some known ≡ Some reason) × (is_outside_the_table reason ≡ false)
met inside is = (ap Some is, rw is at inside)

found_refused : (p : Parts) (r : MoveReading) {reason : Reason} → found_in p r ≡ Err reason
    → (refused_as p r ≡ Some reason) × (is_outside_the_table reason ≡ false)
found_refused p None e = met refl (cc)
found_refused p (Some (Err NoMove)) e = met refl (cc)
found_refused p (Some (Err Ambiguous)) e = met refl (cc)
found_refused p (Some (Ok one)) {reason} e = grind (arith, common_steps, met, hit)

-- what was found at the reader's position was found at the part's
found_at : (old : GameState) (part : Part) (s : List ℕ) {here : Parts} {r : Result Played Reason}
    → IsOpen old part → here ≡ old.text.levels.current.position → r ≡ found_in here (move_of here s)
    → found_in (position_in part) (move_of (position_in part) s) ≡ r
found_at old part s is same found = cc (position_is old part is)

pub refused_inside : (here : Parts) (s : List ℕ) {reason : Reason}
    → Err reason ≡ found_in here (move_of here s) → IsFalse (is_outside_the_table reason)
refused_inside here s found = (found_refused here (move_of here s) (sym found)).1

module _ {old : GameState} {part : Part} (s : List ℕ) (here : Parts) (number : is_number s ≡ false) (score : is_score s ≡ false)
    (is : IsOpen old part) (same : here ≡ old.text.levels.current.position) where
  pub move_free : {played : Played} → Ok played ≡ found_in here (move_of here s) → text_refusal old.profile part (symbol s) ≡ None
  move_free found = grind (arith, move_refusal, found_free, found_at)

  pub move_refused : {reason : Reason} → Err reason ≡ found_in here (move_of here s) → text_refusal old.profile part (symbol s) ≡ Some reason
  move_refused found = grind (arith, move_refusal, found_refused, found_at)

  pub move_leads : {played : Played} → Ok played ≡ found_in here (move_of here s)
      → in_text part (symbol s) ≡ going (with_items part (game.move played.mv ∷ []))
  move_leads found = grind (arith, symbol_leads, found_free, found_at)

pub number_free : (p : Profile) (part : Part) (s : List ℕ) → is_number s ≡ true
    → is_score s ≡ false → text_refusal p part (symbol s) ≡ None
number_free p part s number score = cc

pub number_leads : (part : Part) (s : List ℕ) → is_number s ≡ true
    → is_score s ≡ false → in_text part (symbol s) ≡ going (with_items part [])
number_leads part s number score = symbol_leads part s true number score

-- Markers.

abbrev pub marker_rows : Profile → Part → List ℕ → Option Reason
marker_rows p part marker =
    or_else (nat_le 1 (depth (levels_of_part part))) MarkerInVariation
    (or_else (other_if p.missing_result part.pairs (Some marker) && (depth (levels_of_part part) == 0)) ResultDiffers None)

pub score_of : (s marker : List ℕ) (b : Bool) → is_score s ≡ b → marker_if b s ≡ Some marker → (b ≡ true) × (s ≡ marker)
score_of s marker b e h = search rules

module _ (p : Profile) (part : Part) where
  symbol_marker : (s : List ℕ) {marker : List ℕ} → marker_of (symbol s) ≡ Some marker → text_refusal p part (symbol s) ≡ marker_rows p part marker
  symbol_marker s is = grind (arith, or_right, symbol_refusal, score_of)

  asterisk_marker : {marker : List ℕ} → codes "*" ≡ marker → text_refusal p part asterisk ≡ marker_rows p part marker
  asterisk_marker e = cc

  pub marker_refusal : (k : Kind) {marker : List ℕ} → marker_of k ≡ Some marker → text_refusal p part k ≡ marker_rows p part marker
  marker_refusal k is = grind (arith, symbol_marker, asterisk_marker)

-- whether a marker differs from the value for Result, or else from this text
abbrev pub differs : List ℕ → Option (List ℕ) → List ℕ → Bool
differs missing value marker = not (bytes_eq marker (unwrap_or value missing))

marker_tested : (p : Profile) (part : Part) (missing marker : List ℕ) (inside other : Bool)
    → nat_le 1 (depth (levels_of_part part)) ≡ inside → result_for p.missing_result marker ≡ missing
    → differs missing (value_of part.pairs (codes "Result")) marker ≡ other
    → marker_rows p part marker ≡ or_else inside MarkerInVariation (or_else (other && (depth (levels_of_part part) == 0)) ResultDiffers None)
marker_tested p part missing marker inside other within known test = cc

module _ (old : GameState) (k : Kind) where
  pub marker_inside : (marker : List ℕ) (part : Part) → marker_of k ≡ Some marker → nat_le 1 (depth (levels_of_part part)) ≡ true
      → text_refusal old.profile part k ≡ Some MarkerInVariation
  marker_inside marker part is within = marker_refusal old.profile part k is ∙ hit _ _ _ within

  pub marker_differs : (missing marker : List ℕ) (part : Part) → marker_of k ≡ Some marker → depth (levels_of_part part) ≡ 0
      → result_for old.profile.missing_result marker ≡ missing → differs missing (value_of part.pairs (codes "Result")) marker ≡ true
      → text_refusal old.profile part k ≡ Some ResultDiffers
  marker_differs missing marker part is none known test = search (rules, marker_refusal, marker_tested)

  pub marker_free : (missing marker : List ℕ) (part : Part) → marker_of k ≡ Some marker → depth (levels_of_part part) ≡ 0
      → result_for old.profile.missing_result marker ≡ missing → differs missing (value_of part.pairs (codes "Result")) marker ≡ false
      → text_refusal old.profile part k ≡ None
  marker_free missing marker part is none known test = grind (arith, marker_refusal, marker_tested)

pub marker_whole : (part : Part) (k : Kind) (marker : List ℕ) → marker_of k ≡ Some marker → in_text part k ≡ whole (game_of part marker)
marker_whole part k marker is = cc

-- the test of a reader that has the text of a missing Result
unwrap_copied : (o : Option (Bor (List ℕ))) (d : Bor (List ℕ)) → (unwrap_or o d).now ≡ unwrap_or (option_copied o) d.now
unwrap_copied o d = search rules

pub test_of : (held : List Pair) (value : Option (Bor (List ℕ))) (d known : Bor (List ℕ))
    (missing marker : List ℕ) (test : Bool) (tags : List Pair) → held ≡ tags
    → option_copied value ≡ value_of held (codes "Result") → d.now ≡ missing
    → known ≡ unwrap_or value d → test ≡ not (bytes_eq marker known.now) → differs missing (value_of tags (codes "Result")) marker ≡ test
test_of held value d known missing marker test tags same found text is tested = cc (unwrap_copied value d)

pub none_around : {A : Type 0} (ls : List A) → length ls ≡ 0 → ls ≡ []
none_around [] e = refl
none_around (l ∷ ls) e = absurd (omega (arith, e))
