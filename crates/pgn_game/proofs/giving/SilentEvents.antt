-- From what a token means to what its game answers, if nothing is written.
use Rattle.std.proofs.lemmas.List.{map-append}
use Rattle.pgn_game.proofs.Words.{◌≡◌, ◌↔◌, ◌&&◌, ℕ, Bool, false, IsTrue, List, [], ◌++◌, map, codes, decimal, Option, None, Some, Result, Ok, Err, refl, sym, ap, subst, ◌∙◌, arith, append-nil, Kind, Reason, Stage, InMovetext, Move, Part, Marker, marker_text, marker_of, Event, Means, GameState, IsAnnotation, BeginsText, GameCall, Refuses, RefusesMarker, TakesEntry, TakesMarker, IsEntry, EndsAtMarker, going, next, with_items, is_begun, items_meant, pairs_meant, after_move_at, may_have_movetext, has_whole_pairs, More, EntersMovetext, TakesOutside, IsOutside, Agrees, Leads, unused, rules}
use Rattle.pgn_layout.specs.declared.sink.WriteFault.{WriteFault as Fault}
use Rattle.pgn_game.specs.public.Given.{item, given_of_next, given_at}
use Rattle.pgn_game.specs.declared.event.Event.TheVariants as events
use Rattle.pgn_game.specs.steps.Accepted.{Accepts, AcceptsEntry, IsSoundEvent, MeansItems, answer_of, given_for, no_writer, some_event, without_writer}
use Rattle.pgn_game.proofs.putting.EndToGame.{marker_refused, marker_taken}
use Rattle.pgn_game.proofs.putting.EventToGame.{annotation_taken, is_close, is_comment_close, is_comment_open, is_glyph, is_open, is_word, move_taken, number_means_same, number_taken}
use Rattle.pgn_game.proofs.refusals.RefusalsInMovetext.{marker_whole}

-- a sink that is not looked at
abbrev taken : Unit {0} → Option (List ℕ)
taken x = None

abbrev failures : Unit {0} → ℕ
failures x = 0

pub after_none : (stage : Stage) → after_move_at stage false ≡ false
after_none stage = search rules

-- nothing was written before
pub no_flag : (judge : GameState) → no_writer ≡ record no_writer { is_after_move = after_move_at judge.stage no_writer.is_after_move }
no_flag judge = ap (λ (b : Bool). record no_writer { is_after_move = b }) (sym (after_none judge.stage))

module _ (old judge : GameState) (k : Kind) (e : Event) (means : Means old k judge e) (at : IsTrue (may_have_movetext old.stage)) where
  abbrev begun : GameState
  begun = record judge { stage = InMovetext }

  begins : BeginsText {A = Unit {0}} {E = Fault} (without_writer judge) (without_writer begun) (Ok tt) (unused None 0)
  begins = search (rules, after_none)

  call : GameCall taken failures (without_writer judge) (without_writer begun) tt tt
      (BeginsText {A = Unit {0}} {E = Fault} (without_writer judge) (without_writer begun) (Ok tt))
  call = record { takes = begins; silent = record { silent = refl; untouched = λ silent. refl } }

  pub number_more : e ≡ events.Number → TakesEntry (without_writer old) k (without_writer begun) (Ok More) (unused None 0)
  number_more is =
      (number_taken taken failures no_writer no_writer old judge begun k e means at tt tt call (ap items_meant is) (ap pairs_meant is)
      (number_means_same e old.text judge.text is means.text)).takes

  pub annotation_more : (token : List ℕ) → IsAnnotation token e → TakesEntry (without_writer old) k (without_writer begun) (Ok More) (unused None 0)
  annotation_more token is =
      (annotation_taken taken failures no_writer no_writer old judge begun k e means at tt tt call refl refl (no_flag judge) no_writer tt token is
      (record {
        writes = record { puts = record { text = tt; held = refl; each = λ i d h. absurd (omega (arith, h)); counted = refl }; writer = refl };
        silent = λ silent. refl;
      })).takes

  pub move_more : (m : Move) (n : ℕ) → e ≡ events.Move m n → TakesEntry (without_writer old) k (without_writer begun) (Ok More) (unused None 0)
  move_more m n is =
      (move_taken taken failures no_writer no_writer old judge begun k e means at tt tt call refl refl (no_flag judge) no_writer tt begun m n is
      (record {
        tried = n;
        writes = search rules;
        counts = λ few. ap (λ (most : ℕ). record begun { most_probes = most }) (omega (arith, few));
        written = refl;
        silent = λ silent. refl;
      })).takes

  module _ (plain : (m : Marker) → e ≡ events.Marker m → ⊥) where
    -- whatever it means
    pub event_more : TakesEntry (without_writer old) k (without_writer begun) (Ok More) (unused None 0)
    event_more = by e refl
      where
        by : (x : Event) → e ≡ x → TakesEntry (without_writer old) k (without_writer begun) (Ok More) (unused None 0)
        by events.Number is = number_more is
        by (events.Move m n) is = move_more m n is
        by (events.Glyph n) is = annotation_more (codes "$" ++ decimal n) (rw is (is_glyph n))
        by events.CommentOpen is = annotation_more (codes "{") (rw is is_comment_open)
        by (events.Word text) is = annotation_more text.now (rw is (is_word text))
        by events.CommentClose is = annotation_more (codes "}") (rw is is_comment_close)
        by events.Open is = annotation_more (codes "(") (rw is is_open)
        by events.Close is = annotation_more (codes ")") (rw is is_close)
        by (events.Marker m) is = absurd (plain m is)

    given_plain : given_for e ≡ map item (items_meant e)
    given_plain = search rules

    more_answer : answer_of (Ok (Some e)) ≡ Ok More
    more_answer = search rules

    -- what is given for it
    means_items : (part : Part) → IsEntry (without_writer old) k part → MeansItems part k begun e
    means_items part entry =
        let to : next part k ≡ going (with_items part (items_meant e)) = entry.leads ∙ (means.says no_writer part entry.is_open).1 in
        let leads = (event_more.accepts part entry).leads in
        let agrees : Agrees (without_writer begun) (with_items part (items_meant e)) = subst (λ x. Leads x More (without_writer begun)) to leads in
        let held = agrees.text.0 in search (rules, map-append, given_plain)

    sound_event : IsSoundEvent begun e
    sound_event = search rules

    pub event_accepted : AcceptsEntry old k begun (Ok e)
    event_accepted = search (rules, more_answer, event_more, means_items, sound_event)

-- A row of the table rejects the token.
pub event_refused : {old new : GameState} {k : Kind} {reason : Reason} → Refuses old k new reason → AcceptsEntry old k new (Err reason)
event_refused h = record { takes = h.takes no_writer None 0; gives = λ part entry. tt; sound = tt; whole = tt }

-- whether movetext has begun
begun_is : (stage : Stage) → IsTrue (is_begun stage) ↔ (stage ≡ InMovetext)
begun_is stage = search rules

and_false : (b : Bool) → false ≡ (b && false)
and_false b = search rules

-- A marker.
module _ (old new : GameState) (k : Kind) (marker : Marker) (is : marker_of k ≡ Some (marker_text marker)) where
  pub end_refused : {reason : Reason} → RefusesMarker old marker new reason → AcceptsEntry old k new (Err reason)
  end_refused {reason} h = record {
    takes = (marker_refused {taken = taken} {failures = failures} {a = tt} no_writer old new marker reason h).takes.takes k is;
    gives = λ part entry. tt;
    sound = tt;
    whole = tt;
  }

  module _ (at : IsTrue (may_have_movetext old.stage)) (h : EndsAtMarker old marker new) where
    ends : TakesMarker (without_writer old) marker (without_writer new) (Ok tt) (unused None 0)
    ends =
        (marker_taken taken failures no_writer no_writer old new marker h at (is_begun old.stage) (begun_is old.stage) tt tt
        (ap (λ (b : Bool). record no_writer { is_after_move = b }) (and_false (is_begun old.stage)))
        (record { writes = record { written = tt; counted = refl }; silent = λ silent. refl }) no_writer tt
        (record { writes = record { text = tt; line = refl; writer = refl; counted = refl }; silent = λ silent. refl })).takes

    pub end_accepted : AcceptsEntry old k new (Ok (events.Marker marker))
    end_accepted = record {
      takes = ends.takes k is;
      gives = search (rules, marker_whole, append-nil);
      sound = tt;
      whole = ap (λ (r : GameState). has_whole_pairs r.stage) h.after;
    }

-- A token that is taken outside movetext, or that belongs to it.
not_begun : (stage : Stage) (part : Part) → is_begun stage ≡ false → given_at stage part ≡ []
not_begun stage part h = search rules

module _ {old new : GameState} {k : Kind} where
  pub outside_accepted : TakesOutside (without_writer old) k (without_writer new) (Some (Ok More)) → IsOutside old.stage new.stage (Some (Ok More))
      → Accepts old k new (Ok None)
  outside_accepted takes outside = record {
    takes = takes None 0;
    gives = λ part agrees. (
      gone (next part k) ((takes None 0).accepts part agrees).leads,
      subst (λ (s : Stage). given_at s part ≡ []) agrees.stage (not_begun old.stage part outside.0),
    );
    sound = tt;
    whole = tt;
  }
    where
      gone : (to : _) → Leads to More (without_writer new) → given_of_next to ≡ []
      gone to leads = search (rules, not_begun)

  pub outside_refused : {reason : Reason} → TakesOutside (without_writer old) k (without_writer new) (Some (Err reason)) → Accepts old k new (Err reason)
  outside_refused takes = record { takes = takes None 0; gives = λ part agrees. tt; sound = tt; whole = tt }

-- It is taken by the reader that is ready for it.
module _ (old ready : GameState) (k : Kind) (enters : EntersMovetext (without_writer old) k (without_writer ready)) where
  pub entry_accepted : {new : GameState} (r : Result Event Reason) → AcceptsEntry ready k new r → Accepts old k new (some_event r)
  entry_accepted {new} (Err reason) entry = record {
    takes = enters.takes (without_writer new) (Err reason) (unused None 0) entry.takes;
    gives = λ part agrees. tt;
    sound = entry.sound;
    whole = entry.whole;
  }
  entry_accepted {new} (Ok event) entry = record {
    takes = enters.takes (without_writer new) (answer_of (Ok (Some event))) (unused None 0) entry.takes;
    gives = search rules;
    sound = entry.sound;
    whole = entry.whole;
  }
