-- What one of two readings has read of its source, up to the end of a game, of the source, or to
-- where it stops.
use Rattle.pgn_lexer.specs.declared.partial_token.LexMode.{LexMode}
use Rattle.pgn_game.proofs.Words.{Token, InputTooLong, ReadFault, Fault, Profile, ◌≡◌, ◌^◌, ◌≤◌, ℕ, arith, Bool, false, true, false≢true, List, [], ◌∷◌, ◌++◌, length, take, drop, length-drop, length-take, take_all, drop_of_length-le, tokens_of, take-append-drop, append_assoc, Option, None, Result, Ok, Err, IfSome, refl, sym, ap, subst, ◌∙◌, Consumes-trans, Consumes, Stands, takes_the_marker, with_missing, decided, Standing, StandsAfter, coming, first, Converter, Reading, AreNext, AreShown, letting_missing_result_take_marker, within_limit, HasGiven, HasGivenIn, ReadFails, ReadingStops, ReadsAllOf, SourceGives, Stores, StandsInText, known_by, common_steps, AfterGameEnd, BeginsAt, Games, games_of, rules}
use Rattle.pgn_game.specs.public.ConverterCalls.{at_end}
use Rattle.pgn_game.specs.steps.Flow.{At, FinishesLeft, read_on, HasGivenOf, Known, PassesLimit, ReadsOn, Start, ended, so_far}
use Rattle.pgn_game.specs.steps.SourceFlow.{AfterSource, ReadsSource, SourceStops}
use Rattle.pgn_game.specs.steps.SourceFlow as source_flow
use Rattle.pgn_game.specs.steps.Readings.{at_read, at_token, reading_of}
use Rattle.pgn_game.proofs.flow.KnownResults.{since_start}
use Rattle.pgn_game.proofs.flow.NextGame.{all_used, is_short, whole_text}
use Rattle.pgn_game.proofs.stepping.StepsAtEnd.{left_of}
use Rattle.pgn_game.proofs.stepping.BytesWithinLimit.{all_within, none_next, shown_by}
use Rattle.pgn_game.proofs.stepping.ReadsInText.{between, next_of, used_up}
use Rattle.pgn_game.proofs.stepping.LastTokens.{IsLeft, glyph, left_in, none, symbol}
use Rattle.pgn_game.proofs.stepping.MissingCountsAs.{reads_taking}
use Rattle.pgn_game.proofs.stepping.WholeInput.{known_left, known_whole}

-- the tokens of the text begin with these
abbrev pub AreNextIn : Known → List Token → Type 0
AreNextIn (so_far s) tokens = AreNext s tokens
AreNextIn (ended s) tokens = (rest : List Token) × (tokens_of s ≡ tokens ++ rest)

-- a lexer has a token left at the end
some_left : {mode : LexMode} {place at : ℕ} {text : List ℕ} (ts : List Token) → IsLeft mode place at text ts → (t : Token) × (us : List Token) × (ts ≡ t ∷ us)
some_left _ (none [] quiet last) = absurd last
some_left _ (none (t ∷ us) quiet last) = (t, us, refl)
some_left _ (glyph n) = (_, _, refl)
some_left _ (symbol is) = (_, _, refl)

pub some_coming : (l : Standing) → (t : Token) × (us : List Token) × (coming l [] ≡ t ∷ us)
some_coming l = some_left (coming l []) (left_in l.held.mode)

-- before the first byte
pub given_none : (p : Profile) (c d : Converter) (unused : List ℕ) (left : Option (List ℕ)) → Stands p c [] None [] → d ≡ letting_missing_result_take_marker c → unused ≡ []
    → HasGiven (with_missing p takes_the_marker) left left (record { converter = d; unused = unused; has_ended = false }) []
given_none p c d unused left stands is empty = grind (arith, common_steps, none_next, reads_taking)

-- what holds of the whole text
of_whole : (left_old : Option (List ℕ)) (u : List ℕ) → IfSome left_old (λ s. s ≡ u) → (P : List ℕ → Type 0) → P u → IfSome left_old P
of_whole left_old u whole P h = grind (arith, common_steps)

pub whole_has : (left_old : Option (List ℕ)) (count : ℕ) (unused u : List ℕ) → Stores true count unused u left_old → (P : List ℕ → Type 0) → P u → IfSome left_old P
whole_has left_old count unused u (size, short, whole) P h = of_whole left_old u whole P h

-- the text of a source begins with the tokens that the lexer has given of it
pub next_in : (text : Known) (l : Standing) (ts : List Token) → HasGivenIn text l ts → AreNextIn text ts
next_in (so_far s) l ts on = next_of s l ts on
next_in (ended s) l ts left = (coming l [], left)

-- and it shows them
pub shown_in : (left_old left_now : Option (List ℕ)) (r : Reading) (u : List ℕ) (ts : List Token) → SourceGives left_old left_now r u
    → AreNextIn (known_by r.has_ended u) ts → IfSome left_old (λ s. AreShown s ts)
shown_in left_old left_now r u ts gives = by_end r.has_ended gives.stores
  where
    by_end : (e : Bool) → Stores e r.converter.lexer.count r.unused u left_old → AreNextIn (known_by e u) ts → IfSome left_old (λ s. AreShown s ts)
    by_end false stores next = known_left left_old left_now u (λ s. AreShown s ts) gives.consumed (λ rest. shown_by _ u rest ts refl next)
    by_end true (count, short, is) next = of_whole left_old u is (λ s. AreShown s ts) (at_end short next.0 next.1)

-- where all bytes of a source were read
abbrev pub AtSourceEnd : Start → Option (List ℕ) → Option (List ℕ) → Converter → List ℕ → Option (List ℕ) → Type 0
AtSourceEnd start left_old left c unused after =
    (u : List ℕ) × Consumes left_old left u × Stores true c.lexer.count unused u left_old × (tokens : List Token) × At start (ended u) c tokens after

-- ---- where a call begins

given_of : (e : Bool) (u : List ℕ) (l : Standing) (given : List Token) → HasGivenIn (known_by e u) l given → HasGivenOf (known_by e u) l false given
given_of e u l given h1 = search rules

module _ (left_old left : Option (List ℕ)) (start : Start) (r : Reading) (u : List ℕ) (o : Option (List ℕ)) (begins : BeginsAt left_old left start r u o) where
  here_by : (e : Bool) → HasGivenIn (known_by e u) r.converter.lexer start.given → At start (known_by e u) r.converter start.given start.before
  here_by false given = search (rules, since_start, given_of, false≢true)
  here_by true given = search (rules, since_start, given_of, false≢true)

  here : At start (known_by r.has_ended u) r.converter start.given o
  here = subst (At start (known_by r.has_ended u) r.converter start.given) (sym begins.begun) (here_by r.has_ended begins.lexer)

-- a front of a longer text that is no longer
front_same : (u more : List ℕ) (n : ℕ) → length (take n (u ++ more)) ≤ length (take n u) → take n u ≡ take n (u ++ more)
front_same u more n fits = grind (arith, common_steps)

stands_end : (s : List ℕ) (l : Standing) (tokens : List Token) → StandsAfter l (take l.count s) (first (drop l.count s)) tokens → length s ≤ l.count
    → StandsAfter l s None tokens
stands_end s l tokens stands size = search (rules, take_all, drop_of_length-le)

-- where the source has not ended, and all bytes before place 2^62 were read
module _ (left_old left : Option (List ℕ)) (start : Start) (old : Reading) (u : List ℕ) (o : Option (List ℕ)) (begins : BeginsAt left_old left start old u o)
    (from : old.has_ended ≡ false) (more : List ℕ) (c : Converter) (tokens : List Token) (after : Option (List ℕ))
    (there : At start (so_far (within_limit (u ++ more))) c tokens after) (size : length (within_limit (u ++ more)) ≤ c.lexer.count) where
  abbrev s : List ℕ
  s = within_limit (u ++ more)

  begun : StandsInText (within_limit u) old.converter.lexer start.given
  begun = rw from at begins.lexer

  -- nothing was read since, so there is nothing more
  same_text : c.lexer.count ≡ start.count → within_limit u ≡ within_limit (u ++ more)
  same_text same = front_same u more (2 ^ 62) (omega (arith, size, same, begins.count, begun.inside))

  all_decided : tokens ≡ decided (within_limit (u ++ more))
  all_decided = grind (arith, common_steps, used_up, same_text, begun)

  all_left : StandsAfter c.lexer (within_limit (u ++ more)) None tokens
  all_left = stands_end s c.lexer tokens there.lexer.1 size

  -- reading ends with no token at fault
  pub reads_all : (new : Converter) → new.reading ≡ c.reading → new.games ≡ c.games → ReadsAllOf start (within_limit (u ++ more)) new after
  reads_all new same games = search (rules, all_decided, left_of, all_left)

-- ---- what `read_source` has read

module _ (left_old l m : Option (List ℕ)) (start : Start) (old : Reading) (new : Games) (u : List ℕ) (a c : Option (List ℕ)) (v w x y : ℕ)
    (begins : BeginsAt left_old l start old u a) (from : old.has_ended ≡ false) where
  open_ahead : drop old.converter.lexer.count u ≡ old.unused
  open_ahead = rw from at begins.source.stores

  open_here : At start (so_far (within_limit u)) old.converter start.given a
  open_here = rw from at (here left_old l start old u a begins)

  to : (result : Result Bool Fault) → ReadsSource (games_of old.converter old.unused) new result (between l m v w) (between a c x y)
      → AfterSource start u new result (between l m v w) c
  to result reads = reads.reads start u start.given open_ahead open_here

  all_consumed : (more : List ℕ) → Consumes l m more → Consumes left_old m (u ++ more)
  all_consumed more taken = Consumes-trans left_old l m u more begins.source.consumed taken

  -- a game was finished
  pub game_of : ReadsSource (games_of old.converter old.unused) new (Ok true) (between l m v w) (between a c x y)
      → AfterGameEnd start left_old m (reading_of new.converter new.unused false) (Ok true) c
  game_of reads =
      let (so, ends) = to (Ok true) reads in search (rules, all_consumed)

  limit_of : (f : Fault) (more : List ℕ) → Consumes l m more → PassesLimit start (u ++ more) f new.converter c → ReadingStops start left_old m f new.converter c
  limit_of f more taken past =
      let bytes = u ++ more in
      let front = within_limit bytes in
      let full : length front ≡ 2 ^ 62 = omega (arith, past.long, length-take (2 ^ 62) bytes) in
      rw past.fault (at_read front
      (subst (λ n. ReadFails left_old m (decided front) (record { at = n; reason = InputTooLong })) full
      (ReadFails.too_long front (drop (2 ^ 62) bytes) (subst (Consumes left_old m) (sym (take-append-drop (2 ^ 62) bytes)) (all_consumed more taken)) full
      (omega (arith, past.long, length-drop (2 ^ 62) bytes)) refl))
      (reads_all left_old l start old u a begins from more past.now past.tokens c past.reached (omega (arith, full, past.count)) new.converter past.same past.games))

  -- reading stopped
  stops_of : (f : Fault) → SourceStops start u new.converter (between l m v w) c f → ReadingStops start left_old m f new.converter c
  stops_of _ (source_flow.at_token f more taken stop) =
      at_token (so_far (within_limit (u ++ more))) stop
      (known_left left_old m (u ++ more) (λ s. AreShown s (stop.tokens ++ stop.token ∷ [])) (all_consumed more taken)
      (λ rest. shown_by _ (u ++ more) rest (stop.tokens ++ stop.token ∷ []) refl stop.next))
  stops_of _ (source_flow.past_limit f more taken past) = limit_of f more taken past
  stops_of _ (source_flow.at_read f more taken now tokens there no_more place is) =
      let bytes = u ++ more in
      let size = all_used start bytes [] now tokens c there no_more in
      let short = is_short start bytes [] now tokens c there no_more in
      let whole = all_within bytes short in
      let all = reads_all left_old l start old u a begins from more now tokens c there (omega (arith, size, ap (length {A = ℕ}) whole)) new.converter
      (ap (λ (s : Converter). s.reading) is) (ap (λ (s : Converter). s.games) is) in
      at_read bytes (subst (ReadFails left_old m (decided bytes)) (sym (place ∙ ap (λ k. record { at = k; reason = ReadFault }) size))
      (ReadFails.unread bytes (all_consumed more taken) short refl)) (rw whole at all)

  pub fault_of : (f : Fault) → ReadsSource (games_of old.converter old.unused) new (Err f) (between l m v w) (between a c x y) → ReadingStops start left_old m f new.converter c
  fault_of f reads = stops_of f (to (Err f) reads)

  -- the source has ended
  pub end_of : ReadsSource (games_of old.converter old.unused) new (Ok false) (between l m v w) (between a c x y) → AtSourceEnd start left_old m new.converter new.unused c
  end_of reads =
      let (so, empty, at_source_end) = to (Ok false) reads in
      let bytes = u ++ so.more in
      let none = so.unused ∙ empty in
      let all = all_consumed so.more so.consumed in (
        bytes,
        all,
        (
          all_used start bytes [] new.converter so.tokens c so.here none,
          is_short start bytes [] new.converter so.tokens c so.here none,
          known_whole left_old m bytes (λ s. s ≡ bytes) all at_source_end refl,
        ),
        so.tokens,
        whole_text start bytes [] new.converter so.tokens c so.here none reads.not_finished,
      )

-- it had ended before
pub ended_before : (left_old l : Option (List ℕ)) (start : Start) (old : Reading) (u : List ℕ) (a : Option (List ℕ)) → BeginsAt left_old l start old u a
    → old.has_ended ≡ true → AtSourceEnd start left_old l old.converter old.unused a
ended_before left_old l start old u a begins over = search rules

-- ---- behind the last piece

pub ends_source : (start : Start) (left_old m : Option (List ℕ)) (now new : Converter) (unused : List ℕ) (result : Result Bool Fault) (b c : Option (List ℕ)) (y z : ℕ)
    → AtSourceEnd start left_old m now unused b → FinishesLeft true now new result (between b c y z)
    → AfterGameEnd start left_old m (reading_of new unused true) result c
ends_source start left_old m now new unused result b c y z (u, consumed, stores, tokens, stood) finishes = by_result result finishes.reads
  where
    now_stores : Stores true new.lexer.count unused u left_old
    now_stores = (finishes.count ∙ stores.0, stores.1, stores.2)

    by_result : (r : Result Bool Fault) → ReadsOn now None new (read_on true r) (between b c y z) → AfterGameEnd start left_old m (reading_of new unused true) r c
    by_result (Ok true) reads =
        let to = reads start (ended u) tokens tt stood in search (rules, now_stores)
    by_result (Ok false) reads =
        let to = reads start (ended u) tokens tt stood in search (rules, now_stores)
    by_result (Err f) reads =
        let to = reads start (ended u) tokens tt stood in
        at_token (ended u) to
        (of_whole left_old u now_stores.2 (λ s. AreShown s (to.tokens ++ to.token ∷ []))
        (at_end now_stores.1 to.next.0 (to.next.1 ∙ sym (append_assoc to.tokens (to.token ∷ []) to.next.0))))
