-- One game of each reading: from what was read up to its end to its marker, or to where reading
-- stopped.
use Rattle.pgn_lexer.specs.Tokens as tokens
use Rattle.pgn_game.specs.declared.marker.PlacedMarker.{PlacedMarker as CodePlacedMarker}
use Rattle.pgn_game.proofs.Words.{Kind, Token, Reason, Changed, WriteFault, Fault, Profile, Game, Part, no_part, ◌≡◌, ℕ, ◌+◌, ◌^◌, ◌<◌, ◌≤◌, ◌||◌, ◌&&◌, ◌==◌, not, is_some, bytes_eq, Bool, true, false, true≢false, false≢true, inl, inr, List, [], ◌∷◌, ◌++◌, length, length-append, take, Option, None, Some, Ok, refl, sym, ap, subst, ◌∙◌, append_assoc, append-nil, append_cancel_left, drop-length, arith, Appends-nil, Appends, TokensRise, tokens_of, Stage, Between, HoldsText, counting, refusal, is_end, marker_of, torn, gain, Next, going, whole, next, HasLeft, read, GameState, with_announced, as_written, IsStopped, Converter, IsGoing, marker_text, PlacedMarker, is_other, is_changed, HasMarkers, HasMatched, Reading, model_marker, changed_reason, OneGame, SameGames, GainsAs, part_after, game_text, AfterGameEnd, AllRead, BeginsAt, ComesNext, FirstFails, GameRead, GameWritten, HasGiven, HasGivenIn, ReadingStops, SourceGives, SecondFails, StandsBetween, known_by, decided, as_changed, announcing, AreShown, writing_nothing, common_steps, rules}
use Rattle.pgn_game.specs.steps.Flow.{At, Closes, IsNextIn, Known, Since, Start, ended, so_far}
use Rattle.pgn_game.specs.steps.GameState as game_state
use Rattle.pgn_game.specs.steps.GameState.{is_unexpected}
use Rattle.pgn_game.specs.steps.Readings.{at_read, at_token}
use Rattle.pgn_game.specs.steps.Readings as readings
use Rattle.pgn_game.specs.public.ConverterCalls.{at_end}
use Rattle.pgn_game.proofs.flow.GamesGoOn.{same_if_as_many}
use Rattle.pgn_game.proofs.flow.KnownResults.{written_so}
use Rattle.pgn_game.proofs.flow.Stops.{same_since}
use Rattle.pgn_game.proofs.stepping.EndOfText.{end_place}
use Rattle.pgn_game.proofs.stepping.GamesInTurn.{none_behind, none_or_some, passes_before}
use Rattle.pgn_game.proofs.stepping.MissingCountsAs.{reads_silently}
use Rattle.pgn_game.proofs.stepping.OneMoreToken.{read-passes, read-refuses, text_of-snoc, torn-none}
use Rattle.pgn_game.proofs.stepping.StepsAtEnd.{end_at, is_the_end, left_of}
use Rattle.pgn_game.proofs.twice.MarkerCounts.{changes, marker_finishes, no_marker_goes, refusals_are_inside}
use Rattle.pgn_game.proofs.twice.MarkersInTurn.{HasNoEnd, marked_game, marked_on, matched_next, matched_on, no_end_before}
use Rattle.pgn_game.proofs.twice.SourceToReading.{AreNextIn, next_in, some_coming, whole_has}

-- The end adds nothing, and is no marker.
end_part : (s : Stage) (ps : List _) (name : List ℕ) (items : List _) → s ≡ Between
    → next (record { stage = s; pairs = ps; name = name; items = items }) tokens.end
    ≡ going (record { stage = s; pairs = ps; name = name; items = items })
end_part s ps name items e = grind (arith, common_steps, going)

end_leads : (q : Profile) (part : Part) (k : Kind) → is_end k ≡ true → refusal q part k ≡ None → next part k ≡ going part
end_leads q part k is free = grind (arith, common_steps, is_the_end, end_at, refusal, next, end_part)

end_gains_nothing : (q w : Profile) (part : Part) (k : Kind) → is_end k ≡ true → refusal q part k ≡ None → gain w part k ≡ []
end_gains_nothing q w part k is free = search (rules, end_leads, drop-length)

head_same : {A : Type 0} {x y : A} {xs ys : List A} → x ∷ xs ≡ y ∷ ys → x ≡ y
head_same e = cc

tail_same : {A : Type 0} {x y : A} {xs ys : List A} → x ∷ xs ≡ y ∷ ys → xs ≡ ys
tail_same e = cc

-- what a text begins with of which this token comes next
begins_known : (text : Known) (ts : List Token) (t : Token) → IsNextIn text ts t → (s : List ℕ) × (rest : List Token) × (tokens_of s ≡ ts ++ t ∷ rest)
begins_known (so_far s) ts t next = (s ++ [], (next []).0, (next []).1 ∙ append_assoc ts (t ∷ []) (next []).0)
begins_known (ended s) ts t next = (s, next.0, next.1)

-- what it begins with of which these tokens were given
known_cut : (text : Known) (ts front : List Token) (t : Token) → AreNextIn text ts → ts ≡ front ++ t ∷ [] → (s : List ℕ) × (rest : List Token) × (tokens_of s ≡ front ++ t ∷ rest)
known_cut (so_far s) ts front t next cut =
    (s ++ [], (next []).0, (next []).1 ∙ ap (λ l. l ++ (next []).0) cut ∙ append_assoc front (t ∷ []) (next []).0)
known_cut (ended s) ts front t next cut = (s, next.0, next.1 ∙ ap (λ l. l ++ next.0) cut ∙ append_assoc front (t ∷ []) next.0)

-- the last token of those that pass is not rejected
last_passes : (q : Profile) (ts : List Token) (t : Token) → (read q (ts ++ t ∷ [])).fault ≡ None → refusal q (part_after q ts) t.kind ≡ None
last_passes q ts t passes = search (rules, read-refuses, passes_before, none_or_some)

-- the end changes nothing
end_same : (q : Profile) (ts : List Token) (t : Token) → (read q (ts ++ t ∷ [])).fault ≡ None → is_end t.kind ≡ true
    → (read q (ts ++ t ∷ [])).progress ≡ (read q ts).progress
end_same q ts t passes is = search (rules, last_passes, read-passes, passes_before, end_leads)

-- tokens that go on behind these, none of which is the end, up to the end
before_end : (given more front : List Token) (e : Token) → given ++ more ≡ front ++ e ∷ [] → is_end e.kind ≡ true → HasNoEnd given
    → (rest : List Token) × (front ≡ given ++ rest)
before_end [] more front e cut is none = (front, refl)
before_end (x ∷ xs) more [] e cut is none = absurd (true≢false (sym is ∙ ap (λ (t : Token). is_end t.kind) (sym (head_same cut)) ∙ none.0))
before_end (x ∷ xs) more (y ∷ ys) e cut is none =
    let rest = before_end xs more ys e (tail_same cut) is none.1 in search (rules, head_same)

-- ---- where a call begins

abbrev pub start_at : Profile → Reading → List Token → Option (List ℕ) → Option CodePlacedMarker → Start
start_at q r given before expected =
    record { profile = q; count = r.converter.lexer.count; given = given; before = before; expected = expected }

module _ (q : Profile) (left_old left : Option (List ℕ)) (r : Reading) (given : List Token) (a : Option (List ℕ)) (has : HasGiven q left_old left r given)
    (going : IsGoing r.converter) where
  pub begins_first : r.converter.reading.writing.is_silent ≡ true → BeginsAt left_old left (start_at q r given a None) r has.bytes a
  begins_first silent = search (rules, true≢false)

  pub begins_second : (m : CodePlacedMarker) → r.converter.reading.writing.announced ≡ Some m → BeginsAt left_old left (start_at q r given a (Some m)) r has.bytes a
  begins_second m announced = search rules

-- ---- a game that was read

given_in : (e : Bool) (start : Start) (u : List ℕ) (c : Converter) (ts : List Token) (o : Option (List ℕ)) → At start (known_by e u) c ts o → c.is_finished ≡ false
    → (ts ≡ start.given → ⊥) → HasGivenIn (known_by e u) c.lexer ts
given_in e start u c ts o here goes more = search rules

module _ (q : Profile) (left_old left left_new : Option (List ℕ)) (given : List Token) (old new : Reading) (a c : Option (List ℕ)) (expected : Option CodePlacedMarker)
    (has : HasGiven q left_old left old given) where
  abbrev start : Start
  start = start_at q old given a expected

  module _ (u : List ℕ) (gives : SourceGives left_old left_new new u) (ts : List Token) (here : At (start_at q old given a expected) (known_by new.has_ended u) new.converter ts c)
      (ends : Closes (start_at q old given a expected) (known_by new.has_ended u) new.converter ts) (one : new.converter.games ≡ old.converter.games + 1)
      (going : new.converter.is_finished ≡ false) where
    abbrev front : List Token
    front = given ++ ends.more

    size : length (read q ts).progress.games ≡ length (read q (given ++ ends.more)).progress.games + 1
    size = ap (length {A = Game}) ends.one_game ∙ length-append (read q front).progress.games (ends.game ∷ [])

    same : SameGames q given (given ++ ends.more)
    same = same_if_as_many q given ends.more (omega (arith, size, one, has.has_read.games, here.since.has_read.games))

    passes : (read q (given ++ ends.more)).fault ≡ None
    passes = passes_before q front (ends.marker ∷ []) (rw ends.cut at here.since.has_read.passes)

    more : ts ≡ given → ⊥
    more is = absurd (omega (arith, one, has.has_read.games, here.since.has_read.games, ap (λ l. length (read q l).progress.games) is))

    none : part_after q ts ≡ no_part
    none = rw ends.cut (none_behind q front ends.marker ends.game (rw ends.cut at here.since.has_read.passes) (rw ends.cut at ends.one_game))

    pub stands : StandsBetween q left_old left_new ts new
    stands =
        record {
          has_given = search (rules, given_in, more);
          between = none;
        }

    pub one_game : OneGame q given ts ends.game
    one_game = ends.one_game ∙ ap (λ l. l ++ ends.game ∷ []) same

    -- by the first reading
    pub game_read : (m : CodePlacedMarker) → marker_text m.marker ≡ new.converter.reading.marker → m.at ≡ new.converter.reading.marker_at
        → GameRead q left_old left_new given m new
    game_read m text place =
        record {
          tokens = ts;
          stands = stands;
          marked = λ ms h.
              let marked = marked_game q front ends.marker ms ends.game passes ends.free ends.leads (marked_on q given ends.more has.has_read.passes passes same ms h) in
              search rules;
        }

  -- what was read without a game
  module _ (ts : List Token) (now : Converter) (o : Option (List ℕ)) (since : Since (start_at q old given a expected) now ts o) (games : now.games ≡ old.converter.games) where
    pub no_game : SameGames q given ts
    no_game = same_since start now ts o since (games ∙ has.has_read.games)

    same_front : SameGames q given (given ++ since.more)
    same_front = rw since.extends at no_game

    passes_front : (read q (given ++ since.more)).fault ≡ None
    passes_front = rw since.extends at since.has_read.passes

    pub still_marked : (ms : List PlacedMarker) → HasMarkers q given ms → HasMarkers q ts ms
    still_marked ms h = rw since.extends (marked_on q given since.more has.has_read.passes passes_front same_front ms h)

    -- tokens behind which another comes show no difference
    pub still_matched : TokensRise → (t : Token) → (s : List ℕ) × (rest : List Token) × (tokens_of s ≡ ts ++ t ∷ rest)
        → (ms : List PlacedMarker) (m : PlacedMarker) → HasMatched q ms given (m ∷ []) → HasMatched q ms ts (m ∷ [])
    still_matched rise t behind ms m h = search (rules, matched_on, passes_front, same_front, no_end_before)

-- ---- the first reading

module _ (q : Profile) (left_old left left_new : Option (List ℕ)) (given : List Token) (old new : Reading) (a c : Option (List ℕ)) (has : HasGiven q left_old left old given) where
  pub all_read : AfterGameEnd (start_at q old given a None) left_old left_new new (Ok false) c → new.converter.games ≡ old.converter.games → new.converter.is_finished ≡ true
      → AllRead q left_old given new
  all_read (u, stores, ts, here) games over =
      let all : ts ≡ tokens_of u = rw over at here.lexer in
      record {
        tokens = ts;
        whole = whole_has left_old new.converter.lexer.count new.unused u stores (λ s. (length s ≤ 2 ^ 62) × (tokens_of s ≡ ts)) (stores.1, sym all);
        has_read = here.since.has_read;
        marked = still_marked q left_old left left_new given old new a c None has ts new.converter c here.since games;
      }

  -- nothing is written, so it is no write that fails
  refused_first : (ts : List Token) (t : Token) (f : Fault) (r s : GameState) (b d : Option (List ℕ)) → r.profile ≡ q → f.at ≡ t.at
      → (f.reason ≡ WriteFault → ⊥) → ComesNext left_old ts t → IsStopped r (part_after q ts) t.kind s b d f.reason
      → readings.WhyFirst q left_old left_new ts f
  refused_first ts t f r s b d profile place no_write comes stopped = by_stop f.reason refl stopped
    where
      by_stop : (x : Reason) → f.reason ≡ x → IsStopped r (part_after q ts) t.kind s b d x → readings.WhyFirst q left_old left_new ts f
      by_stop x is (game_state.refused reason some wrote tries here) =
          subst (readings.WhyFirst q left_old left_new ts)
          (ap (λ n. record { at = n; reason = x }) (sym place) ∙ ap (λ (y : Reason). record { at = f.at; reason = y }) (sym is))
          (readings.refused t reason comes (subst (λ (p : Profile). refusal p (part_after q ts) t.kind ≡ Some reason) profile some))
      by_stop x is (game_state.unwritten free wrote tries) = absurd (no_write is)

  pub first_fails : (f : Fault) → (f.reason ≡ WriteFault → ⊥) → new.converter.games ≡ old.converter.games
      → ReadingStops (start_at q old given a None) left_old left_new f new.converter c → FirstFails q left_old left_new given f
  first_fails f no_write games (at_token text h comes) =
      record {
        tokens = h.tokens;
        passes = h.since.has_read.passes;
        marked = still_marked q left_old left left_new given old new a c None has h.tokens h.now h.mid h.since (sym h.games ∙ games);
        why = search (rules, refused_first, false≢true);
      }
  first_fails f no_write games (at_read u fails all) =
      record {
        tokens = decided u;
        passes = all.since.has_read.passes;
        marked = still_marked q left_old left left_new given old new a c None has (decided u) all.now c all.since (sym all.games ∙ games);
        why = readings.unread f fails;
      }

-- ---- the second reading, to which the marker of the game was announced

-- an announced marker changes nothing else
text_announced : (marker : CodePlacedMarker) (r : GameState) (here : Part) (stage : Stage) → HoldsText stage r here
    → HoldsText stage (with_announced marker r) here
text_announced marker r here stage h = search rules

module _ (q : Profile) (left_old left : Option (List ℕ)) (r : Reading) where
  pub announced_reading : (given : List Token) (m : CodePlacedMarker) (d : Converter) → d ≡ announcing m r.converter → HasGiven q left_old left r given
      → HasGiven q left_old left (record { converter = d; unused = r.unused; has_ended = r.has_ended }) given
  announced_reading given m d is h = grind (arith, common_steps, text_announced)

  -- nothing is written from now on
  pub silent_reading : (d : Converter) → d ≡ writing_nothing r.converter → HasGiven q left_old left r []
      → HasGiven q left_old left (record { converter = d; unused = r.unused; has_ended = r.has_ended }) []
  silent_reading d is h = grind (arith, common_steps, reads_silently)

-- a token that shows a difference, by the markers
module _ (q : Profile) (m : PlacedMarker) (part : Part) (t : Token) where
  differs_if : (b : Bool) → refusal q part t.kind ≡ None → is_other m (next part t.kind) t ≡ b → is_changed q m part t ≡ b
  differs_if b free is = ap (λ (o : Option Reason). is_some o || is_other m (next part t.kind) t) free ∙ is

  differs_refused : (reason : Reason) → refusal q part t.kind ≡ Some reason → is_changed q m part t ≡ true
  differs_refused reason some = ap (λ (o : Option Reason). is_some o || is_other m (next part t.kind) t) some

  -- another marker, or one at another place, whether it is rejected or not
  differs_at_marker : (marker : List ℕ) → marker_of t.kind ≡ Some marker → not (bytes_eq marker m.text && (t.at == m.at)) ≡ true
      → is_changed q m part t ≡ true
  differs_at_marker marker is other = search (rules, differs_refused, differs_if, marker_finishes)

module _ (q : Profile) (left_old left left_new : Option (List ℕ)) (given : List Token) (old new : Reading) (a c : Option (List ℕ)) (announced : CodePlacedMarker) (rise : TokensRise)
    (has : HasGiven q left_old left old given) (between : part_after q given ≡ no_part) where
  abbrev expected : PlacedMarker
  expected = model_marker announced

  abbrev w : Profile
  w = counting q (marker_text announced.marker)

  -- what is written of the game behind these tokens
  written_of : (ts : List Token) (o : Option (List ℕ)) → SameGames q given ts → GainsAs w q given ts a o → Appends a o (torn w (part_after q ts))
  written_of ts o same gains = search (rules, torn-none, append-nil, append_cancel_left)

  -- and of a game that is whole
  game_text_of : (ts : List Token) (g : Game) (o : Option (List ℕ)) → part_after q ts ≡ no_part → OneGame q given ts g → GainsAs w q given ts a o
      → Appends a o (game_text q g)
  game_text_of ts g o behind one gains = search (rules, torn-none, append-nil, text_of-snoc, append_cancel_left)

  -- it stops behind these tokens
  module _ (ts : List Token) (now : Converter) (o : Option (List ℕ)) (since : Since (start_at q old given a (Some announced)) now ts o) (games : now.games ≡ old.converter.games)
      (writes : now.reading.writing.is_silent ≡ false) where
    fails_behind : (f : Fault) (d : Option (List ℕ)) (t : Token) → (s : List ℕ) × (rest : List Token) × (tokens_of s ≡ ts ++ t ∷ rest)
        → readings.WhySecond q left_old left_new ts announced o d f → SecondFails q left_old left_new given announced f a d
    fails_behind f d t behind why =
        let same = no_game q left_old left left_new given old new a c (Some announced) has ts now o since games in
        record {
          tokens = ts;
          passes = since.has_read.passes;
          no_game = same;
          matched = λ ms h. still_matched q left_old left left_new given old new a c (Some announced) has ts now o since games rise t behind ms expected h;
          mid = o;
          wrote = written_of ts o same (since.gains writes);
          why = why;
        }

    -- a token that is not taken shows a difference, or its text could not be written
    why_token : (t : Token) (f : Fault) (s : GameState) (d : Option (List ℕ)) → f.at ≡ t.at → ComesNext left_old ts t
        → (f.reason ≡ WriteFault → (text : List ℕ) → marker_of t.kind ≡ Some text → is_unexpected (Some announced) text t.at ≡ false)
        → IsStopped now.reading (part_after q ts) t.kind s o d f.reason → readings.WhySecond q left_old left_new ts announced o d (as_changed f)
    why_token t f s d place comes expects stopped = by_stop f.reason refl stopped
      where
        by : as_written now.reading ≡ counting q (marker_text announced.marker)
        by = written_so (Some announced) q now.reading since.has_read.profile (since.known writes)

        -- the token shows no difference
        same_marker : f.reason ≡ WriteFault → refusal q (part_after q ts) t.kind ≡ None → (n : ℕ) → n < length (gain w (part_after q ts) t.kind)
            → (o : Option (List ℕ)) → marker_of t.kind ≡ o → is_other expected (next (part_after q ts) t.kind) t ≡ false
        same_marker failed free n short (Some text) is =
            ap (λ (n : Next). is_other expected n t) (marker_finishes q (part_after q ts) t.kind text is free) ∙ expects failed text is
        same_marker failed free n short None is = by_end (is_end t.kind) refl
          where
            by_end : (e : Bool) → is_end t.kind ≡ e → is_other expected (next (part_after q ts) t.kind) t ≡ false
            by_end true end = absurd (omega (arith, short, ap (length {A = ℕ}) (end_gains_nothing q w (part_after q ts) t.kind end free)))
            by_end false end = ap (λ (n : Next). is_other expected n t) (no_marker_goes (part_after q ts) t.kind is).1 ∙ end

        by_stop : (r : Reason) → f.reason ≡ r → IsStopped now.reading (part_after q ts) t.kind s o d r
            → readings.WhySecond q left_old left_new ts announced o d (as_changed f)
        by_stop r is (game_state.refused reason some wrote tries here) =
            let row = subst (λ (p : Profile). refusal p (part_after q ts) t.kind ≡ Some reason) since.has_read.profile some in
            let changed : changed_reason f.reason ≡ Changed = ap changed_reason is ∙ changes reason (refusals_are_inside q (part_after q ts) t.kind reason row) in
            subst (readings.WhySecond q left_old left_new ts announced o d)
            (ap (λ n. record { at = n; reason = Changed }) (sym place) ∙ ap (λ (x : Reason). record { at = f.at; reason = x }) (sym changed))
            (readings.differs t comes (differs_refused q expected (part_after q ts) t reason row) wrote)
        by_stop r is (game_state.unwritten none (n, short, wrote) tries) =
            let row = subst (λ (p : Profile). refusal p (part_after q ts) t.kind ≡ None) since.has_read.profile none in
            let less = subst (λ (w : Profile). n < length (gain w (part_after q ts) t.kind)) by short in
            subst (readings.WhySecond q left_old left_new ts announced o d)
            (ap (λ n. record { at = n; reason = WriteFault }) (sym place) ∙ ap (λ (x : Reason). record { at = f.at; reason = x }) (sym (ap changed_reason is)))
            (readings.unwritten t comes (differs_if q expected (part_after q ts) t false row (same_marker is row n less (marker_of t.kind) refl))
            (n, less, subst (λ (w : Profile). Appends o d (take n (gain w (part_after q ts) t.kind))) by wrote))

  -- Reading stops.
  pub second_fails : (f : Fault) → new.converter.games ≡ old.converter.games → new.converter.reading.writing.is_silent ≡ false
      → ReadingStops (start_at q old given a (Some announced)) left_old left_new f new.converter c → SecondFails q left_old left_new given announced (as_changed f) a c
  second_fails f games writes (at_token text h comes) =
      let still : h.now.reading.writing.is_silent ≡ false = ap (λ (w : game_state.Writing). w.is_silent) (sym h.writing) ∙ writes in
      fails_behind h.tokens h.now h.mid h.since (sym h.games ∙ games) still (as_changed f) c h.token (begins_known text h.tokens h.token h.next)
      (elim h.stopped [
        | inl stopped ↦ why_token h.tokens h.now h.mid h.since (sym h.games ∙ games) still h.token f new.converter.reading c h.place comes (h.expected still) stopped
        | inr another ↦
            subst (readings.WhySecond q left_old left_new h.tokens announced h.mid c)
            (ap (λ n. record { at = n; reason = Changed }) (sym h.place) ∙ ap (λ (x : Reason). record { at = f.at; reason = changed_reason x }) (sym another.why))
            (readings.differs h.token comes (differs_at_marker q expected (part_after q h.tokens) h.token another.text another.is another.other)
            (rw another.unwritten (Appends-nil h.mid)))
      ])
  second_fails f games writes (at_read u fails all) =
      let behind = some_coming all.now.lexer in
      let still : all.now.reading.writing.is_silent ≡ false = ap (λ (r : GameState). r.writing.is_silent) (sym all.same) ∙ writes in
      fails_behind (decided u) all.now c all.since (sym all.games ∙ games) still (as_changed f) c behind.0
      (u, behind.1, all.left ∙ ap (λ (ts : List Token). decided u ++ ts) behind.2) (readings.unread f fails (Appends-nil c))

  -- The game that it has read is the one of the marker.
  pub game_written : AfterGameEnd (start_at q old given a (Some announced)) left_old left_new new (Ok true) c → new.converter.games ≡ old.converter.games + 1
      → new.converter.is_finished ≡ false → new.converter.reading.writing.is_silent ≡ false → GameWritten q left_old left_new given announced new a c
  unfolding stands
  game_written (u, gives, ts, here, ends) one goes writes =
      let front = given ++ ends.more in
      let no_more = same q left_old left left_new given old new a c (Some announced) has u gives ts here ends one goes in
      let free = passes q left_old left left_new given old new a c (Some announced) has u gives ts here ends one goes in
      let still = stands q left_old left left_new given old new a c (Some announced) has u gives ts here ends one goes in
      let known = known_cut (known_by new.has_ended u) ts front ends.marker (next_in (known_by new.has_ended u) new.converter.lexer ts still.has_given.lexer) ends.cut in
      record {
        tokens = ts;
        stands = still;
        game = ends.game;
        one_game = one_game q left_old left left_new given old new a c (Some announced) has u gives ts here ends one goes;
        matched = λ ms h.
            rw ends.cut (matched_next q ms expected front ends.marker (whole ends.game) free
            (differs_if q expected (part_after q front) ends.marker false ends.free (ap (λ (n : Next). is_other expected n ends.marker) ends.leads ∙ ends.expected writes)) ends.leads
            (matched_on q given ends.more has.has_read.passes free no_more
            (no_end_before rise known.0 given ends.more front ends.marker known.1 known.2 refl) ms expected h));
        written = game_text_of ts ends.game c still.between (one_game q left_old left left_new given old new a c (Some announced) has u gives ts here ends one goes)
            (here.since.gains writes);
      }

  -- It has ended before that.
  pub ends_before : AfterGameEnd (start_at q old given a (Some announced)) left_old left_new new (Ok false) c → new.converter.games ≡ old.converter.games
      → new.converter.is_finished ≡ true → new.converter.reading.writing.is_silent ≡ false
      → SecondFails q left_old left_new given announced (record { at = new.converter.lexer.count; reason = Changed }) a c
  ends_before (u, stores, ts, here) games over writes =
      let all : ts ≡ tokens_of u = rw over at here.lexer in
      let last = (here.over over).1 in
      let front = last.0 in
      let e = last.1 in
      let cut : ts ≡ front ++ e ∷ [] = last.2 in
      let whole : tokens_of u ≡ front ++ e ∷ [] = sym all ∙ cut in
      let passes : (read q (front ++ e ∷ [])).fault ≡ None = rw cut at here.since.has_read.passes in
      let passes_front = passes_before q front (e ∷ []) passes in
      let free = last_passes q front e passes in
      let end_is = end_same q front e passes last.3 in
      let none_more : SameGames q given ts = no_game q left_old left left_new given old new a c (Some announced) has ts new.converter c here.since games in
      let same : SameGames q given front = ap (λ b. b.games) (sym end_is) ∙ ap (λ l. (read q l).progress.games) (sym cut) ∙ none_more in
      let no_end = given_no_end old.has_ended has.bytes has.lexer in
      let rest = before_end given here.since.more front e (sym here.since.extends ∙ cut) last.3 no_end in
      let part_is : part_after q ts ≡ part_after q front = ap (part_after q) cut ∙ ap (λ b. b.part) end_is in
      record {
        tokens = front;
        passes = passes_front;
        no_game = same;
        matched = search (rules, matched_on, passes_front, no_end_before);
        mid = c;
        wrote = rw part_is at (written_of ts c none_more (here.since.gains writes));
        why = subst (λ n. readings.WhySecond q left_old left_new front announced c c (record { at = n; reason = Changed }))
            (end_place u front e whole last.3 ∙ sym stores.0)
            (readings.differs e (whole_has left_old new.converter.lexer.count new.unused u stores (λ s. AreShown s (front ++ e ∷ [])) (at_end stores.1 [] (whole ∙ sym (append-nil (front ++ e ∷ [])))))
            (differs_if q expected (part_after q front) e true free (ap (λ (n : Next). is_other expected n e) (end_leads q (part_after q front) e.kind last.3 free) ∙ last.3))
            (Appends-nil c));
      }
    where
      no_end_in : (s : List ℕ) → HasLeft old.converter.lexer s given → HasNoEnd given
      no_end_in s left =
          let next = some_coming old.converter.lexer in
          no_end_before rise s [] given given next.0 next.1 (left ∙ ap (λ ts. given ++ ts) next.2) refl

      given_no_end : (ended : Bool) (u : List ℕ) → HasGivenIn (known_by ended u) old.converter.lexer given → HasNoEnd given
      given_no_end false u on = search (rules, no_end_in, left_of)
      given_no_end true u left = no_end_in u left
