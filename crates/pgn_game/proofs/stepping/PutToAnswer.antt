-- From what putting a token results in, and from its row of the table, to what the reader answers.
use Rattle.pgn_lexer.specs.declared.token.TokenKind.TheVariants as token_kinds
use Rattle.pgn_game.proofs.Words.{Parts, Kind, Reason, Stage, Between, AfterTags, InMovetext, Profile, Part, no_part, ◌≡◌, ◌⊎◌, ℕ, max, Bool, true, false, ◌||◌, List, length, drop, Option, None, Some, Bor, Result, Ok, Err, IsFalse, IsTrue, is_some, refl, sym, ap, subst, ◌∙◌, arith, Appends-nil, AppendsFront, Device, kind_of, TokenKind, symbol, Accepted, More, Marker, marker_text, torn, refusal, is_at, is_comment, is_end, is_number, is_outside_tag_pairs, is_score, marker_of, position_if_move, position_in, Next, going, at_stage, next, gain, text_next, CostsToFind, Tries, TriesUnwritten, GameState, mode_written, Agrees, Answers, as_written, IsStopped, is_outside_the_table, FinishesAtMarker, IsEntry, IsOpen, may_have_movetext, text_refusal, with_items, Event, Means, Writer, game_by, items_meant, pairs_meant, CountsMove, EntersMovetext, EntersPart, Finds, HoldsPairs, FinishesNone, GoesTo, PutResult, Takes, TakesEntry, TakesOutside, TakesToken, TakesUnwritten, at_game_start, counting_probes, unused, rules, false≢true, le-max_left, common_steps}
use Rattle.pgn_game.specs.steps.GameState as game_state
use Rattle.pgn_game.proofs.refusals.RefusalsByStage.{begins_alike, comment_passes, drops_comments, passes_between}
use Rattle.pgn_game.proofs.refusals.RefusalsInMovetext.{marker_whole, move_refused as move_row_refused, position_is, refused_inside}
use Rattle.pgn_game.proofs.refusals.ReaderToPart.{held_at, part_stage, position_in_pair}
use Rattle.pgn_game.proofs.putting.ItemToReader.{to_items}
use Rattle.pgn_game.proofs.putting.MarkerToReader.{to_game}
use Rattle.pgn_game.proofs.putting.PairStepToReader.{puts_nothing, no_torn}
use Rattle.pgn_game.proofs.stepping.PairsTriedForToken.{CostsToPut, TriesPut, adds_same, costs_found, marker_untried, plain_untried, tries_put, untried_in_pair}
use Rattle.pgn_game.specs.public.MostTried as most_tried

pub counting_none : (old : GameState) → old ≡ counting_probes old 0
counting_none old = let same : old.most_probes ≡ max old.most_probes 0 = omega arith in ap (λ (n : ℕ). record old { most_probes = n }) same

-- Rejections.

pub refused_after : (old new : GameState) (IsOf : Part → Type 0) (k : Kind) (reason : Reason) (n : ℕ) (o : Option (List ℕ)) (m : ℕ)
    → new ≡ counting_probes old n
    → IsFalse (is_outside_the_table reason) → ((part : Part) → IsOf part → refusal old.profile part k ≡ Some reason)
    → ((part : Part) → IsOf part → CostsToFind part k n)
    → ((part : Part) → IsOf part → position_if_move reason old.text.levels.current.position ≡ position_if_move reason (position_in part))
    → Takes old IsOf k new (Err reason) (unused o m)
refused_after old new IsOf k reason n o m counted inside why costs here = record {
  accepts = λ part is.
      game_state.refused reason (why part is) (Appends-nil o)
      (record {
        tried = n;
        allowed = record { found = n; finds = costs part is; writes = rw (why part is) };
        most = rw counted;
      }) (rw counted (here part is));
  keeps = search (rules, le-max_left);
  stays = tt;
  finished = tt;
  counted = rw inside;
}

-- in movetext, where no pair was tried
pub entry_refused : (old : GameState) (k : Kind) (reason : Reason) (o : Option (List ℕ)) (m : ℕ) → IsFalse (is_outside_the_table reason)
    → ((part : Part) → IsOpen old part → text_refusal old.profile part k ≡ Some reason)
    → ((part : Part) → CostsToFind part k 0) → TakesEntry old k old (Err reason) (unused o m)
entry_refused old k reason o m inside why costs =
    refused_after old old (IsEntry old k) k reason 0 o m (counting_none old) inside
    (λ part is. is.row ∙ why part is.is_open) (λ part is. costs part)
    (λ part is. ap (position_if_move reason) (position_is old part is.is_open))

-- Tokens that are put.

-- what was put after the move of a token was sought is what the reader answers
module _ (old counted new : GameState) (part : Part) (k : Kind) (to : Next) (d : Device) (n more : ℕ) (same : counted ≡ counting_probes old n)
    (says : (refusal old.profile part k ≡ None) × (next part k ≡ to))
    (finds : CostsToFind part k n) (most : new.most_probes ≡ max old.most_probes more) where
  gain_is : drop (length (torn (as_written counted) part)) (text_next (as_written counted) to) ≡ gain (as_written old) part k
  gain_is = rw same (ap (λ (x : Next). drop (length (torn (as_written old) part)) (text_next (as_written old) x)) (sym says.1))

  tries : CostsToPut (mode_written old) part to n more → Tries old.writing.is_silent old.profile part k more
  tries costs = record { found = n; finds = finds; writes = search rules }

  unwritten : CostsToPut (mode_written old) part to n more ⊎ ((is_at InMovetext part ≡ false) × (more ≡ n)) → TriesUnwritten old.writing.is_silent old.profile part k more
  unwritten h1 = search (rules, tries)

  answers : (r : Result Accepted Reason) → GoesTo counted part to new r d
      → TriesPut (mode_written old) part to r n more → Answers old part k new r d.before d.after
  answers (Ok accepted) goes costs = grind (arith, common_steps, gain_is, tries)
  answers (Err reason) (is, front) costs =
      subst (λ (r : Reason). IsStopped old part k new d.before d.after r) (sym is)
      (game_state.unwritten says.0 (subst (AppendsFront d.before d.after) gain_is front)
      (record { tried = more; allowed = unwritten costs; most = most }))

pub takes_put : (old : GameState) {counted new : GameState} (IsOf IsPut : Part → Type 0)
    (k : Kind) {to : Part → Next} {r : Result Accepted Reason} {d : Device} (n more : ℕ)
    → counted ≡ counting_probes old n → PutResult counted IsPut to new r d
    → FinishesAtMarker k new r → (counted.stage ≡ Between → counted ≡ old)
    → new.most_probes ≡ max old.most_probes more → ((part : Part) → IsOf part → IsPut part)
    → ((part : Part) → IsOf part → (refusal old.profile part k ≡ None) × (next part k ≡ to part))
    → ((part : Part) → IsOf part → CostsToFind part k n)
    → ((part : Part) → IsOf part → TriesPut (mode_written old) part (to part) r n more) → Takes old IsOf k new r d
takes_put old IsOf IsPut k n more same puts finished closed most sub says finds costs = search (rules, answers, le-max_left)

finishes_none : (k : Kind) (new : GameState) (r : Result Accepted Reason) → FinishesNone r → FinishesAtMarker k new r
finishes_none k new r none = search rules

-- A step of a tag pair, and a token that changes nothing.
pub takes_step : (old new : GameState) (k : Kind) (to : Part → Next) (o : Option (List ℕ)) (m : ℕ)
    → PutResult old (Agrees old) to new (Ok More) (unused o m) → new.most_probes ≡ old.most_probes
    → ((part : Part) → Agrees old part → (refusal old.profile part k ≡ None) × (next part k ≡ to part))
    → ((part : Part) → Agrees old part → CostsToFind part k 0)
    → ((part : Part) → CostsToPut (mode_written old) part (to part) 0 0) → TakesToken old k new (Ok More) (unused o m)
takes_step old new k to o m puts most says finds costs = grind (arith, common_steps, takes_put, counting_none)

-- Tokens of a tag pair, at one of its stages.
module _ (old new : GameState) (k : Kind) (stage : Stage) (at : old.stage ≡ stage)
    (inside : (q : Part) → is_outside_tag_pairs (at_stage stage q) ≡ false) where
  untried : (part : Part) → Agrees old part → CostsToFind part k 0
  untried part agrees = untried_in_pair part k (rw (part_stage old part stage agrees at) (inside part))

  pub refused_in_pair : (reason : Reason) → new ≡ old → IsFalse (is_outside_the_table reason)
      → ((part : Part) → Agrees old part → refusal old.profile part k ≡ Some reason) → TakesUnwritten old k new (Err reason)
  refused_in_pair reason same in_table why o m = refused_after old new (Agrees old) k reason 0 o m (same ∙ counting_none old) in_table why untried
      (λ part agrees. ap (position_if_move reason) (position_in_pair agrees at (inside part)))

  pub step_in_pair : (to : Part → Next) → ((o : Option (List ℕ)) (m : ℕ) → PutResult old (Agrees old) to new (Ok More) (unused o m))
      → new.most_probes ≡ old.most_probes → ((part : Part) → CostsToPut (mode_written old) part (to part) 0 0)
      → ((part : Part) → Agrees old part → (refusal old.profile part k ≡ None) × (next part k ≡ to part))
      → TakesUnwritten old k new (Ok More)
  step_in_pair to puts most costs says o m = takes_step old new k to o m (puts o m) most says untried costs

pub comment_in_pair : (old new : GameState) (k : TokenKind) (stage : Stage) → old.stage ≡ stage
    → ((q : Part) → is_outside_tag_pairs (at_stage stage q) ≡ false) → new ≡ old
    → IsTrue (drops_comments stage) → true ≡ is_comment (kind_of k) → TakesUnwritten old (kind_of k) new (Ok More)
comment_in_pair old new k stage at inside same drops is = search (rules, step_in_pair, puts_nothing, adds_same, comment_passes)

-- A token that belongs to movetext at the stage of the reader.
pub enters : (old : GameState) (k : TokenKind) → IsTrue (may_have_movetext old.stage)
    → ((part : Part) → Agrees old part → IsEntry old (kind_of k) part) → EntersMovetext old (kind_of k) old
enters old k at entry = search rules

-- A token that begins a game.

abbrev no_pairs : Part
no_pairs = at_stage AfterTags no_part

finds_alike : (k : TokenKind) (n : ℕ) → CostsToFind no_pairs (kind_of k) n → CostsToFind no_part (kind_of k) n
finds_alike _ n h = h

module _ (silent : Bool) (p : Profile) (k : TokenKind) (row : refusal p no_pairs (kind_of k) ≡ refusal p no_part (kind_of k))
    (leads : next no_pairs (kind_of k) ≡ next no_part (kind_of k)) where
  tries_alike : {n : ℕ} → Tries silent p no_pairs (kind_of k) n → Tries silent p no_part (kind_of k) n
  tries_alike t = grind (arith, common_steps, finds_alike)

  unwritten_alike : {n : ℕ} → TriesUnwritten silent p no_pairs (kind_of k) n → TriesUnwritten silent p no_part (kind_of k) n
  unwritten_alike (most_tried.at_token t) = most_tried.at_token (tries_alike t)
  unwritten_alike {n} (most_tried.in_section before finds) = most_tried.in_section refl (finds_alike k n finds)

  gain_alike : (w : Profile) → gain w no_pairs (kind_of k) ≡ gain w no_part (kind_of k)
  gain_alike w = grind (arith, common_steps, no_torn)

module _ (old new : GameState) where
  answers_alike : (k : TokenKind) (r : Result Accepted Reason) (a b : Option (List ℕ)) → old.stage ≡ Between
      → refusal old.profile no_pairs (kind_of k) ≡ refusal old.profile no_part (kind_of k) → next no_pairs (kind_of k) ≡ next no_part (kind_of k)
      → Answers (at_game_start old) no_pairs (kind_of k) new r a b → Answers old no_part (kind_of k) new r a b
  answers_alike k (Ok accepted) a b at row leads h = search (rules, gain_alike, tries_alike)
  answers_alike k (Err reason) a b at row leads (game_state.refused why is none t here) =
      game_state.refused why (sym row ∙ is) none
      (record { tried = t.tried; allowed = tries_alike old.writing.is_silent old.profile k row leads t.allowed; most = t.most }) here
  answers_alike k (Err reason) a b at row leads (game_state.unwritten free front t) =
      game_state.unwritten (sym row ∙ free) (subst (AppendsFront a b) (gain_alike old.writing.is_silent old.profile k row leads (as_written old)) front)
      (record { tried = t.tried; allowed = unwritten_alike old.writing.is_silent old.profile k row leads t.allowed; most = t.most })

  pub takes_first : (k : TokenKind) (r : Result Accepted Reason) (d : Device) → old.stage ≡ Between → is_comment (kind_of k) ≡ false
      → is_end (kind_of k) ≡ false → TakesToken (at_game_start old) (kind_of k) new r d → TakesToken old (kind_of k) new r d
  takes_first k r d at comment over t = search (rules, answers_alike, begins_alike, held_at)

  -- Markers.
  pub takes_marker : (k : Kind) (marker : Marker) (r : Result Accepted Reason) (d : Device) → PutResult old (IsOpen old) (to_game marker) new r d
      → FinishesAtMarker k new r → new.most_probes ≡ old.most_probes → marker_of k ≡ Some (marker_text marker)
      → ((part : Part) → IsOpen old part → text_refusal old.profile part k ≡ None) → TakesEntry old k new r d
  takes_marker k marker r d puts finished most is free =
      takes_put old (IsEntry old k) (IsOpen old) k 0 0
      (counting_none old) puts finished (λ at. refl) (omega (arith, most)) (λ part at. at.is_open)
      (λ part at. (at.row ∙ free part at.is_open, at.leads ∙ marker_whole part k (marker_text marker) is))
      (λ part at. marker_untried part k (ap is_some is))
      (λ part at. tries_put (mode_written old) part (to_game marker part) r 0 0 refl)

-- Moves.

-- a reader that counts more probes holds the same part
open_counted : {old : GameState} (n : ℕ) {part : Part} → IsOpen old part → IsOpen (counting_probes old n) part
open_counted n is = search (rules, le-max_left)

pub next_of : (o : Option Parts) → is_some o ≡ true → (q : Parts) × (o ≡ Some q)
next_of o h = search rules

-- What was found for a symbol that is neither a number nor a marker.
module _ (old found : GameState) (s : List ℕ) (n : ℕ) (at : IsTrue (may_have_movetext old.stage))
    (number : is_number s ≡ false) (score : is_score s ≡ false) where
  pub move_refused : (reason : Reason) (o : Option (List ℕ)) (m : ℕ)
      → Finds old s found (Err reason) n → TakesEntry old (symbol s) found (Err reason) (unused o m)
  move_refused reason o m finds =
      let here = old.text.levels.current.position in
      refused_after old found (IsEntry old (symbol s)) (symbol s) reason n o m finds.counted (refused_inside here s finds.found)
      (λ part is. is.row ∙ move_row_refused s here number score is.is_open refl finds.found)
      (λ part is. costs_found s n is.is_open at number score finds.tried)
      (λ part is. ap (position_if_move reason) (position_is old part is.is_open))

-- What was written of a token that means this is what the reader answers.
module _ (w : Writer) (old reader : GameState) (k : Kind) (e : Event) (means : Means old k reader e) (at : IsTrue (may_have_movetext old.stage)) where
  not_between : (counting_probes (game_by w old) (pairs_meant e)).stage ≡ Between → counting_probes (game_by w old) (pairs_meant e) ≡ game_by w old
  not_between between = let h : IsTrue (may_have_movetext Between) = rw between at at in absurd (cc)

  pub takes_event : (new : GameState) (r : Result Accepted Reason) (d : Device) (more : ℕ)
      → PutResult (counting_probes (game_by w old) (pairs_meant e)) (IsOpen (counting_probes (game_by w old) (pairs_meant e))) (to_items (items_meant e)) new r d
      → FinishesNone r → new.most_probes ≡ max old.most_probes more
      → ((part : Part) → IsOpen (game_by w old) part
      → TriesPut (mode_written (game_by w old)) part (going (with_items part (items_meant e))) r (pairs_meant e) more)
      → TakesEntry (game_by w old) k new r d
  takes_event new r d more puts none most costs =
      takes_put (game_by w old) (IsEntry (game_by w old) k) (IsOpen (counting_probes (game_by w old) (pairs_meant e))) k (pairs_meant e) more
      refl puts (finishes_none k new r none) not_between most
      (λ part is. open_counted (pairs_meant e) is.is_open)
      (λ part is. (is.row ∙ (means.says w part is.is_open).0, is.leads ∙ (means.says w part is.is_open).1))
      (λ part is. means.finds w part is.is_open) (λ part is. costs part is.is_open)

-- A token between games that begins none.
bare_untried : (k : TokenKind) (part : Part) → (is_comment (kind_of k) || is_end (kind_of k)) ≡ true → CostsToFind part (kind_of k) 0
bare_untried k part is = search (rules, false≢true)

module _ (old : GameState) where
  pub passes_first : (new : GameState) (k : TokenKind) (o : Option (List ℕ)) (m : ℕ) → new ≡ old → old.stage ≡ Between
      → (is_comment (kind_of k) || is_end (kind_of k)) ≡ true → TakesToken old (kind_of k) new (Ok More) (unused o m)
  passes_first new k o m same at is = search (rules, takes_step, puts_nothing, passes_between, part_stage, bare_untried, adds_same)

  -- The move of a token that SetUp rejects.
  pub no_symbol_counted : (k : TokenKind) → ((s : Bor (List ℕ)) → k ≡ token_kinds.Symbol s → ⊥) → CountsMove old (kind_of k) old
  no_symbol_counted k other = search (rules, counting_none)

  pub plain_counted : (s : List ℕ) → (is_score s || is_number s) ≡ true → CountsMove old (symbol s) old
  plain_counted s plain = record { pairs = 0; counted = counting_none old; tried = λ part agrees. plain_untried part s plain }

  -- a game that begins holds no pair
  agrees_first : (part : Part) → old.stage ≡ Between → Agrees old part → Agrees (at_game_start old) no_pairs
  agrees_first part at agrees = search rules

  first_enters : (k : TokenKind) → old.stage ≡ Between → is_comment (kind_of k) ≡ false → is_end (kind_of k) ≡ false
      → {ready : GameState} (part : Part) → Agrees old part
      → ((q : Part) → Agrees (at_game_start old) q → EntersPart ready (kind_of k) q) → EntersPart ready (kind_of k) part
  first_enters k at comment over part agrees enters =
      let first = enters no_pairs (agrees_first part at agrees) in
      let none : part ≡ no_part = subst (λ (s : Stage). HoldsPairs s old.tags part) at agrees.pairs in search (rules, begins_alike)

  -- The first token of a game is taken as after pairs, of which there is none.
  pub takes_outside_first : (new : GameState) (k : TokenKind) (o : Option (Result Accepted Reason)) → old.stage ≡ Between
      → is_comment (kind_of k) ≡ false → is_end (kind_of k) ≡ false → TakesOutside (at_game_start old) (kind_of k) new o
      → TakesOutside old (kind_of k) new o
  takes_outside_first new k (Some r) at comment over t = search (rules, takes_first)
  takes_outside_first new k None at comment over t = record {
    stage = t.stage;
    profile = t.profile;
    writing = t.writing;
    plies = omega (arith, t.plies);
    probes = t.probes;
    enters = λ part agrees. first_enters k at comment over part agrees t.enters;
    takes = λ newer r d entry. takes_first old newer k r d at comment over (t.takes newer r d entry);
  }
