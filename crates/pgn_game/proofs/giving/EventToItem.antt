-- From the event that a token means to the item that is given for it.
use Rattle.std.proofs.lemmas.List.{map-append}
use Rattle.pgn_game.proofs.Words.{◌≡◌, ◌↔◌, ℕ, ◌+◌, ◌||◌, Bool, true, false, is_some, IsTrue, List, [], ◌∷◌, ◌++◌, map, Option, None, Some, IsSome, IsSomeAnd, Ok, Err, refl, sym, ap, subst, ◌∙◌, arith, append-nil, false≢true, Kind, Reason, Stage, InMovetext, Move, Parts, Part, Pair, Item, Marker, legal, marker_text, Event, GameState, IsPlayed, Agrees, FinishesAtMarker, marker_of, HoldsPairs, HoldsText, next, items_meant, rules, common_steps}
use Rattle.pgn_game.specs.declared.event.Event.TheVariants as events
use Rattle.pgn_game.specs.declared.item.Item.{Item as CodeItem}
use Rattle.pgn_game.specs.declared.item.Item.TheVariants as items
use Rattle.pgn_game.specs.public.Given.{Given, item, tags, given_at, given_of_next, given_of_part, given_with}
use Rattle.pgn_game.specs.public.ItemsCalls.{Current, IsBehindTags, IsLegalIfMove, is_marker_item, shown_move, given_as, given_if, given_next}
use Rattle.pgn_game.specs.steps.Accepted.{Accepts, MeansItems, answer_of, given_for, without_writer}
use Rattle.pgn_game.specs.steps.ItemsSteps.{GivesFor, GivesMore, IsAnswer, IsPlayedItem, IsSoundGame, LastIs, TakesItem, games_added, given_first, given_second, item_meant, marker_given}

-- the text of a word that an event has
abbrev pub IsSpelled : Event → List ℕ → Type 0
IsSpelled (events.Word text) word = word ≡ text.now
IsSpelled _ word = Unit {0}

pub spelled_plain : (e : Event) (word : List ℕ) → ((text : _) → e ≡ events.Word text → ⊥) → IsSpelled e word
spelled_plain e word plain = search rules

pub none_ended : (e : Event) → ((m : Marker) → e ≡ events.Marker m → ⊥) → games_added (answer_of (Ok (Some e))) ≡ 0
none_ended e plain = search rules

given_item : (e : Event) (c : Current) → IsSpelled e c.word → given_for e ≡ given_if c (item_meant e)
given_item e c is = search rules

abbrev ended_by : Event → Option (List ℕ)
ended_by (events.Marker m) = Some (marker_text m)
ended_by _ = None

plain_whole : (ps : List Pair) (is more : List Item)
    → given_with ps is ++ map item more ≡ given_with ps (is ++ more) ++ []
plain_whole ps is more = search (rules, map-append, append-nil)

whole_is : (e : Event) (ps : List Pair) (is : List Item)
    → given_with ps is ++ given_for e ≡ given_with ps (is ++ items_meant e) ++ marker_given (ended_by e)
whole_is e ps is = grind (arith, common_steps, append-nil, plain_whole)

some_answer : (e : Event) (i : Option CodeItem) → IsAnswer (Ok i) (answer_of (Ok (Some e)))
some_answer e i = search rules

-- before movetext nothing was given of the game
none_given : (stage : Stage) (part : Part) → (stage ≡ InMovetext → ⊥) → given_at stage part ≡ []
none_given stage part h = search rules

no_items : (stage : Stage) (r : GameState) (part : Part) → (stage ≡ InMovetext → ⊥) → HoldsPairs stage r.tags part → HoldsText stage r part → part.items ≡ []
no_items stage r part h pairs text = search rules

-- a marker is given for a marker alone
marker_either : (begun : Bool) (o : Option CodeItem) → IsTrue (is_marker_item (given_first begun o) || is_marker_item (given_second begun o))
    → IsTrue (is_marker_item o)
marker_either begun o is = search rules

marker_if : (k : Kind) (r : GameState) (e : Event) → FinishesAtMarker k r (answer_of (Ok (Some e))) → IsTrue (is_marker_item (item_meant e))
    → IsTrue (is_some (marker_of k))
marker_if k r e finishes is = search (rules, false≢true)

-- The state after a token that means this.
module _ (old new : GameState) (k : Kind) (e : Event) (accepts : Accepts old k new (Ok (Some e))) (games : ℕ) (word : List ℕ) (spelled : IsSpelled e word) where
  abbrev pub after_event : Bool → Current
  after_event begun = record {
    reading = without_writer new;
    games = games;
    word = word;
    last = given_first begun (item_meant e);
    pending = given_second begun (item_meant e);
  }

  module _ (part : Part) (agrees : Agrees (without_writer old) part) where
    means : MeansItems part k new e
    means = accepts.gives part agrees

    more : (begun : Bool) (i : CodeItem)
        → given_of_next (next part k) ≡ given_of_part part ++ given_as (after_event begun) i ∷ given_next (after_event begun)
        → GivesMore part k (after_event begun) i
    more begun i given = record {
      given = given;
      items = part.items ++ items_meant e;
      ended = ended_by e;
      whole = means.given ∙ whole_is e part.pairs part.items;
      pairs = means.pairs;
      text = record { levels = means.text.levels; plies = means.text.plies; held = refl };
    }

    -- in movetext
    going : old.stage ≡ InMovetext → (o : Option CodeItem) → item_meant e ≡ o → GivesFor part k (after_event true) (Ok o)
    going at o is =
        let before : given_of_part part ≡ given_with part.pairs part.items = search rules in
        let all : given_of_next (next part k) ≡ given_of_part part ++ given_if (after_event true) o = search (rules, given_item) in
        by o is all
      where
        by : (o : Option CodeItem) → item_meant e ≡ o → given_of_next (next part k) ≡ given_of_part part ++ given_if (after_event true) o
            → GivesFor part k (after_event true) (Ok o)
        by None is all = all ∙ append-nil (given_of_part part)
        by (Some i) is all = more true i all

    -- where it begins
    beginning : (old.stage ≡ InMovetext → ⊥) → GivesFor part k (after_event false) (Ok (Some items.Tags))
    beginning at =
        let before : given_of_part part ≡ [] = none_given part.stage part (λ is. at (agrees.stage ∙ is)) in
        let none : part.items ≡ [] = no_items old.stage (without_writer old) part at agrees.pairs agrees.text in
        more false items.Tags
        (means.given ∙ ap (λ (is : List Item). given_with part.pairs is ++ given_for e) none
        ∙ ap (λ (ps : List Pair). tags ps ∷ given_for e) (sym means.pairs)
        ∙ ap (λ (gs : List Given). tags new.tags.held ∷ gs) (given_item e (after_event false) spelled)
        ∙ ap (λ (gs : List Given). gs ++ tags new.tags.held ∷ given_if (after_event false) (item_meant e)) (sym before))

  pub takes_event : (c : Current) → c.reading ≡ without_writer old → games ≡ c.games + games_added (answer_of (Ok (Some e))) → (begun : Bool)
      → IsTrue begun ↔ (old.stage ≡ InMovetext) → TakesItem c k (after_event begun) (Ok (given_first begun (item_meant e)))
  takes_event c same counted begun is = record {
    answer = answer_of (Ok (Some e));
    is = some_answer e (given_first begun (item_meant e));
    takes = rw same accepts.takes;
    games = counted;
    gives = λ part agrees. by begun is part (rw same at agrees);
    last = last_is begun (item_meant e) refl;
    is_marker = λ read. marker_if k (without_writer new) e accepts.takes.finished (marker_either begun (item_meant e) read);
  }
    where
      last_is : (begun : Bool) (o : Option CodeItem) → item_meant e ≡ o → LastIs {E = Reason} (after_event begun) (Ok (given_first begun o))
      last_is begun o is = search rules

      by : (begun : Bool) → IsTrue begun ↔ (old.stage ≡ InMovetext) → (part : Part) → Agrees (without_writer old) part
          → GivesFor part k (after_event begun) (Ok (given_first begun (item_meant e)))
      by true is part agrees = going part agrees (is.0 refl) (item_meant e) refl
      by false is part agrees = beginning part agrees (λ at. false≢true (is.1 at))

-- A token that is rejected.
module _ (old new : GameState) (k : Kind) (c : Current) (same : c.reading ≡ without_writer old) (word : List ℕ) where
  abbrev after_none : Current
  after_none = record { reading = without_writer new; games = c.games; word = word; last = None; pending = None }

  pub takes_refused : {reason : Reason} → Accepts old k new (Err reason) → TakesItem c k after_none (Err reason)
  takes_refused {reason} accepts = record {
    answer = Err reason;
    is = refl;
    takes = rw same accepts.takes;
    games = omega arith;
    gives = λ part agrees. tt;
    last = (refl, refl);
    is_marker = λ read. absurd (false≢true read);
  }

-- a move was played from a position
some_before : {A : Type 0} (P : A → Type 0) (o : Option A) → IsSomeAnd o P → IsSome o
some_before P o h = search rules

move_item : (o : Option CodeItem) (m : Move) → shown_move o ≡ Some m → o ≡ Some (items.Move m)
move_item o m is = search rules

module _ (r : GameState) (o : Option CodeItem) (m : Move) (is : shown_move o ≡ Some m) where
  played : IsPlayedItem r o → IsPlayed r m
  played h = subst (IsPlayedItem r) (move_item o m is) h

  pub played_before : IsPlayedItem r o → IsSome r.text.levels.current.before
  played_before h = some_before _ r.text.levels.current.before (played h)

  pub leads_from : IsPlayedItem r o → (here : Parts) → r.text.levels.current.before ≡ Some here → legal here m ≡ Some r.text.levels.current.position
  leads_from h here before = search (rules, played)

  -- nothing is given next once a move was given
  pub none_next : (next : Option CodeItem) → IsBehindTags next o → next ≡ None
  none_next next h = search (rules, move_item)

-- A move that was given last is legal where it stands.
pub legal_if_move : (c : Current) → IsSoundGame c → IsLegalIfMove c
legal_if_move c sound m is = search (rules, none_next, played)
