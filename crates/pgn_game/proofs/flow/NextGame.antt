-- The bytes of a source, read up to the end of its next game.
use Rattle.pgn_game.specs.declared.converter.Fed.TheVariants.{All, Game as GameEnd}
use Rattle.pgn_game.proofs.Words.{◌≡◌, ℕ, ◌+◌, ◌-◌, ◌^◌, ◌<◌, ◌≤◌, Bool, true, false, inl, inr, List, [], ◌∷◌, ◌++◌, length, take, drop, Option, None, Some, Result, Ok, Err, refl, sym, ap, subst, ◌∙◌, arith, append-nil, append_assoc, length-append, length-drop, length-take, take_all, take-append-drop, take-append_seam, drop-append_seam, drop-length, false≢true, Token, Fault, Game, Profile, ReadFault, InputTooLong, Consumes, Consumes-nil, Consumes-trans, IsAtEnd, tokens_of, coming, first, IsDecided, StandsAfter, Converter, Games, games_of, HaveRead, NextGame, NextStops, NextFault, ReadsNoGame, HasReadAll, AfterNext, within_limit, StandsInText, Stands, SameGames, Gains, FinishedGame, finished_game_of, read, read_from, no_part, no_progress, rules, Consumes-kept}
use Rattle.pgn_game.specs.public.GamesCalls as games_calls
use Rattle.pgn_game.specs.steps.Flow.{At, Closes, EndsGames, FeedsPiece, FinishesLeft, PassesLimit, ReadsOn, Start, StopsAt, ended, so_far}
use Rattle.std.specs.Io.KnownBytes.{Keeps}
use Rattle.pgn_game.specs.steps.SourceFlow.{AfterSource, HasReadSince, ReadsSince, ReadsSource, SourceStops}
use Rattle.pgn_game.specs.steps.SourceFlow as source_flow
use Rattle.pgn_game.proofs.stepping.BytesWithinLimit.{all_within, front_within, unused_now}
use Rattle.pgn_game.proofs.flow.KnownResults.{since_start}
use Rattle.pgn_game.proofs.stepping.GamesInTurn.{due_between, last_is, none_behind}
use Rattle.pgn_game.proofs.stepping.LastTokens.{AddsOne, left_games, left_none_begun}
use Rattle.pgn_game.proofs.stepping.NoneBeforeFault.{reads_behind}
use Rattle.pgn_game.proofs.stepping.ReadsInText.{between, bytes_in, decided_in, next_of, stands_in, used_up}
use Rattle.pgn_game.proofs.stepping.StepsAtEnd.{left_of}
use Rattle.pgn_game.proofs.stepping.StepsInPiece.{before_any, decided_at_end}
use Rattle.pgn_game.proofs.flow.AtEnd as at_end
use Rattle.pgn_game.proofs.flow.GamesGoOn.{same_if_as_many}
use Rattle.pgn_game.proofs.flow.Stops.{IsShown, IsStopShown, StopsSince, fed_to_fault, gains_shown, same_since, stops_since}

-- ---- more bytes of a text are known

module _ (start : Start) (s piece : List ℕ) (c : Converter) (tokens : List Token) (o : Option (List ℕ))
    (here : At start (so_far (within_limit s)) c tokens o) (none : drop c.lexer.count s ≡ []) where
  pub all_used : c.lexer.count ≡ length s
  all_used = omega (arith, here.lexer.0, length-take (2 ^ 62) s, length-drop c.lexer.count s, ap (length {A = ℕ}) none)

  pub is_short : length s ≤ 2 ^ 62
  is_short = omega (arith, here.lexer.0, length-take (2 ^ 62) s, all_used)

  whole : within_limit s ≡ s
  whole = all_within s is_short

  abbrev front : List ℕ
  front = take (2 ^ 62 - length s) piece

  front_known : within_limit (s ++ piece) ≡ s ++ front
  front_known = front_within s piece (2 ^ 62 - length s) (omega (arith, is_short))

  up_to : take c.lexer.count (within_limit (s ++ piece)) ≡ s
  up_to = ap (take c.lexer.count) front_known ∙ ap (λ n. take n (s ++ front)) all_used ∙ take-append_seam s front

  stands : StandsAfter c.lexer s None tokens
  stands = search (rules, take_all, all_used, whole)

  pub filled : At start (so_far (within_limit (s ++ piece))) c tokens o
  filled = search (rules, all_used, front_known, length-append, up_to, before_any, stands, take_all, decided_at_end, whole)

  -- or that there are none
  pub whole_text : c.is_finished ≡ false → At start (ended s) c tokens o
  whole_text going = search (rules, left_of, stands)

-- ---- from where games stand within the bytes that their source has given

-- what is decided stays so, whatever comes after the next byte
next_still : (xs more : List ℕ) (b n : ℕ) → first (take n xs) ≡ Some b → first (take n (xs ++ more)) ≡ Some b
next_still xs more b n e = search rules

decided_still : (used xs more : List ℕ) (n : ℕ) (given : List Token) → IsDecided used (take n xs) given → IsDecided used (take n (xs ++ more)) given
decided_still used xs more n given (inl e) = inl e
decided_still used xs more n given (inr (b, e, k)) = inr (b, next_still xs more b n e, k)

module _ (p : Profile) (u : List ℕ) (given : List Token) (old : Games) (a : Option (List ℕ)) (on : games_calls.HasReadWithin p u old given) where
  abbrev pub start : Start
  start = record { profile = p; count = length on.used; given = given; before = a; expected = None }

  count : old.converter.lexer.count ≡ length on.used
  count = on.stands.lexer.count

  pub ahead : drop old.converter.lexer.count u ≡ old.unused
  ahead = ap (λ n. drop n u) count ∙ ap (drop (length on.used)) on.bytes ∙ drop-append_seam on.used old.unused

  module _ (short : old.converter.lexer.count ≤ 2 ^ 62) where
    abbrev n : ℕ
    n = 2 ^ 62 - length on.used

    bytes_within : (more : List ℕ) → within_limit (u ++ more) ≡ on.used ++ take n (old.unused ++ more)
    bytes_within more = search (rules, append_assoc, front_within, count)

    used_there : (more : List ℕ) → take old.converter.lexer.count (within_limit (u ++ more)) ≡ on.used
    used_there more = search (rules, bytes_within, count, take-append_seam)

    left_there : (more : List ℕ) → drop old.converter.lexer.count (within_limit (u ++ more)) ≡ take n (old.unused ++ more)
    left_there more = search (rules, bytes_within, count, drop-append_seam)

    begins_there : At start (so_far (within_limit (u ++ []))) old.converter given a
    begins_there =
        let left : take n (old.unused ++ []) ≡ take n old.unused = ap (take n) (append-nil old.unused) in
        record {
          since = since_start start old.converter on.stands.has_read on.stands.known;
          lexer = search (rules, count, bytes_within, length-append, used_there, left_there);
          decided = inr (count, refl);
          over = λ is. absurd (false≢true (sym on.not_finished ∙ is));
        }

    pub begins : At start (so_far (within_limit u)) old.converter given a
    begins = rw (append-nil u) at begins_there

    module _ (more : List ℕ) (left_old left : Option (List ℕ)) (consumed : Consumes left_old left more) where
      abbrev s : List ℕ
      s = u ++ more

      in_text : {c : Converter} {tokens : List Token} {o : Option (List ℕ)} → At start (so_far (within_limit s)) c tokens o → StandsInText (within_limit s) c.lexer tokens
      in_text {c} {tokens} {o} here =
          record {
            inside = here.lexer.0;
            stands = here.lexer.1;
            decided = elim here.decided [
              | inl is ↦ is
              | inr none ↦
                  let same : c.lexer.count ≡ old.converter.lexer.count = none.0 ∙ sym count in
                  rw (same, used_there more, left_there more, none.1) (decided_still on.used old.unused more n given on.decided)
            ];
          }

      -- a game was finished
      module _ (new : Converter) (tokens : List Token) (c : Option (List ℕ)) (here : At start (so_far (within_limit s)) new tokens c)
          (shown : IsShown new.reading.writing.is_silent a) where
        pub game_read : (unused : List ℕ) → drop new.lexer.count s ≡ unused → (ends : Closes start (so_far (within_limit s)) new tokens)
            → new.games ≡ old.converter.games + 1 → new.is_finished ≡ false → NextGame p u given left_old left (games_of new unused) a c
        game_read unused is ends one going =
            let front = given ++ ends.more in
            let size : length (read p tokens).progress.games ≡ length (read p front).progress.games + 1 = search (rules, length-append) in
            let same = same_if_as_many p given ends.more (omega (arith, size, one, on.stands.has_read.games, here.since.has_read.games)) in
            let none : (read p tokens).progress.part ≡ no_part = rw ends.cut (none_behind p front ends.marker ends.game (rw ends.cut at here.since.has_read.passes) (rw ends.cut at ends.one_game)) in
            record {
              more = more;
              consumed = consumed;
              tokens = tokens;
              have_read = games_calls.within (record {
                used = take new.lexer.count s;
                bytes = bytes_in s new.lexer unused tokens (in_text here) is;
                stands = search (rules, stands_in, in_text);
                decided = decided_in s new.lexer unused tokens (in_text here) is;
                not_finished = going;
              });
              next = λ yes. next_of (within_limit s) new.lexer tokens (in_text here);
              game = ends.game;
              one_game = ends.one_game ∙ ap (λ l. l ++ ends.game ∷ []) same;
              just_finished = ends.just_finished;
              whole = due_between p (read p tokens).progress none;
              gains = gains_shown start new tokens c refl here.since shown;
            }

        -- all its bytes were read, and no game was finished
        pub none_finished : length (within_limit s) ≤ new.lexer.count → new.games ≡ old.converter.games → ReadsNoGame p given (within_limit s) a c
        none_finished size same =
            record {
              reads = record {
                tokens = tokens;
                decided = (used_up (within_limit s) new.lexer tokens (in_text here) size).1;
                passes = here.since.has_read.passes;
                gains = gains_shown start new tokens c refl here.since shown;
              };
              no_game = same_since start new tokens c here.since (same ∙ on.stands.has_read.games);
            }

      -- reading stopped
      module _ (new : Converter) (c : Option (List ℕ)) (unused : List ℕ) (same : new.games ≡ old.converter.games) (none : new.just_finished ≡ None) where
        next_fault : (f : Fault) → NextStops p u given left_old left new.reading a c f → NextFault p u given left_old left (games_of new unused) f a c
        next_fault f stops = record { stops = stops; games = same ∙ on.stands.has_read.games; none_just_finished = none }

        pub stops_at : (f : Fault) → IsStopShown new.reading.writing.is_silent a f.reason → StopsAt start (so_far (within_limit s)) f new c
            → NextFault p u given left_old left (games_of new unused) f a c
        stops_at f shown to =
            let fed = fed_to_fault start (within_limit s) f new c refl (same ∙ on.stands.has_read.games) shown to in
            next_fault f (games_calls.at_token f more consumed (record {
              tokens = fed.fed.tokens;
              next = fed.fed.next;
              stops = fed.fed.stops;
              no_game = fed.no_game;
              counts = fed.counts;
            }))

        too_long : 2 ^ 62 < length s → ReadsNoGame p given (within_limit s) a c
            → NextFault p u given left_old left (games_of new unused) (record { at = 2 ^ 62; reason = InputTooLong }) a c
        too_long long reads =
            next_fault _ (games_calls.too_long more (within_limit s) (drop (2 ^ 62) s) consumed (sym (take-append-drop (2 ^ 62) s))
            (omega (arith, long, length-take (2 ^ 62) s)) (omega (arith, long, length-drop (2 ^ 62) s)) reads)

        pub passes_limit : (f : Fault) → IsShown new.reading.writing.is_silent a → PassesLimit start s f new c
            → NextFault p u given left_old left (games_of new unused) f a c
        passes_limit f shown past =
            rw past.fault (too_long past.long
            (none_finished past.now past.tokens c past.reached (rw past.same at shown) (omega (arith, past.count, length-take (2 ^ 62) s))
            (sym past.games ∙ same)))

        -- a read failed
        pub unread : (now : Converter) (tokens : List Token) → At start (so_far (within_limit s)) now tokens c → IsShown now.reading.writing.is_silent a
            → drop now.lexer.count s ≡ [] → now.games ≡ new.games
            → NextFault p u given left_old left (games_of new unused) (record { at = now.lexer.count; reason = ReadFault }) a c
        unread now tokens here shown no_more as_many =
            let size = all_used start s [] now tokens c here no_more in
            let few = is_short start s [] now tokens c here no_more in
            let reads = none_finished now tokens c here shown (omega (arith, size, length-take (2 ^ 62) s)) (as_many ∙ same) in
            rw size (next_fault _ (games_calls.unread more consumed few (rw (all_within s few) at reads)))

-- ---- the source has ended
module _ (p : Profile) (u : List ℕ) (given : List Token) (old : Games) (a : Option (List ℕ)) (on : games_calls.HasReadWithin p u old given) (more : List ℕ)
    (left_old left : Option (List ℕ)) (consumed : Consumes left_old left more) (at_source_end : IsAtEnd left)
    (mid : Converter) (tokens : List Token) (b : Option (List ℕ)) (there : At (start p u given old a on) (so_far (within_limit (u ++ more))) mid tokens b)
    (no_more : drop mid.lexer.count (u ++ more) ≡ []) (going : mid.is_finished ≡ false) (as_many : mid.games ≡ old.converter.games)
    (new : Converter) (unused : List ℕ) (c : Option (List ℕ)) where
  abbrev begin : Start
  begin = start p u given old a on

  abbrev text : List ℕ
  text = u ++ more

  short : length text ≤ 2 ^ 62
  short = is_short begin text [] mid tokens b there no_more

  pub whole_there : At begin (ended text) mid tokens b
  whole_there = whole_text begin text [] mid tokens b there no_more going

  left_behind : tokens_of text ≡ tokens ++ coming mid.lexer []
  left_behind = rw going at whole_there.lexer

  same_games : SameGames p given tokens
  same_games = same_since begin mid tokens b there.since (as_many ∙ on.stands.has_read.games)

  reads_text : read p (tokens_of text) ≡ read_from p (read p tokens).progress (coming mid.lexer [])
  reads_text = ap (read p) left_behind ∙ reads_behind p no_progress tokens (coming mid.lexer []) there.since.has_read.passes

  adds : AddsOne (read p given).progress.games (read p (tokens_of text))
  adds = search (rules, same_games, reads_text, left_games)

  stands_there : Stands p mid text None tokens
  stands_there = record { known = there.since.known; lexer = stands begin text [] mid tokens b there no_more; has_read = there.since.has_read }

  -- a token of it was not taken
  module _ (f : Fault) (x y : ℕ) (reads : ReadsOn mid None new (Err f) (between b c x y)) where
    -- no game was finished before it
    few : IsStopShown new.reading.writing.is_silent b f.reason → new.games ≡ mid.games
    few shown =
        let to = reads (at_end.start p text None tokens mid b stands_there going) (ended text) tokens tt (at_end.begins p text None tokens mid b stands_there going) in
        let fed = at_end.fails p text None tokens mid b stands_there going f new c shown to in search rules

    pub stopped : IsStopShown new.reading.writing.is_silent a f.reason → IsStopShown new.reading.writing.is_silent b f.reason → new.just_finished ≡ None
        → NextFault p u given left_old left (games_of new unused) f a c
    stopped shown shown_there none =
        let to = reads begin (ended text) tokens tt whole_there in
        let all = subst (λ ts. StopsSince p given to.tokens ts f new.reading a c) (sym to.next.1) (stops_since begin (ended text) f new c to to.next.0 refl shown) in
        let same = few shown_there ∙ as_many ∙ on.stands.has_read.games in
        record {
          stops = games_calls.NextStops.at_end f more consumed at_source_end short (record {
            stops = all.stops;
            no_game = all.games ∙ same_since begin to.now to.tokens to.mid to.since (sym to.games ∙ same);
            counts = all.counts;
          });
          games = same;
          none_just_finished = none;
        }

  module _ (ts : List Token) (here : At begin (ended text) new ts c) (shown : IsShown new.reading.writing.is_silent a) (over : new.is_finished ≡ true) where
    all : ts ≡ tokens_of text
    all = rw over at here.lexer

    passes : (read p (tokens_of text)).fault ≡ None
    passes = rw all at here.since.has_read.passes

    read_all : HasReadAll p left text (games_of new unused) (tokens_of text)
    read_all = search (rules, short, whole, reads_text, left_none_begun, passes, all)

    gains : Gains p given (tokens_of text) a c
    gains = rw all at (gains_shown begin new ts c refl here.since shown)

    many : new.games ≡ length (read p (tokens_of text)).progress.games
    many = rw all at here.since.has_read.games

    one : (finished : FinishedGame) → new.just_finished ≡ Some finished → (g : Game) → (read p (tokens_of text)).progress.games ≡ (read p given).progress.games ++ g ∷ []
        → NextGame p u given left_old left (games_of new unused) a c
    one finished is g adds_one =
        let last = rw is at read_all.has_read.just_finished in
        let same : last.1 ≡ g = last_is last.0 (read p given).progress.games (sym last.2 ∙ adds_one) in
        record {
          more = more;
          consumed = consumed;
          tokens = tokens_of text;
          have_read = games_calls.HaveRead.at_end read_all;
          next = λ yes. absurd (false≢true (sym yes ∙ over));
          game = g;
          one_game = adds_one;
          just_finished = rw (last.3 ∙ ap finished_game_of same) at is;
          whole = read_all.none_begun;
          gains = gains;
        }

    pub ended_now : (finished_game : Bool) → EndsGames false mid new (Ok finished_game) → AfterNext p u given left_old left (games_of new unused) (Ok finished_game) a c
    ended_now true ends = elim adds [
      | inl same ↦ absurd (omega (arith, ends.0, as_many, many, on.stands.has_read.games, ap (length {A = Game}) same))
      | inr (none, (g, adds_one)) ↦ let finished = ends.1 (here.over over).0 in one finished.0 finished.1 g adds_one
    ]
    ended_now false ends = search (rules, adds, read_all, gains, many, length-append)

-- ---- a call of `convert_game`

still_within : {p : Profile} {left : Option (List ℕ)} {u : List ℕ} {old : Games} {given : List Token} → HaveRead p left u old given → old.converter.is_finished ≡ false
    → games_calls.HasReadWithin p u old given
still_within h1 going = search (rules, all, false≢true)

-- the source was read, of which the games had read these tokens
module _ (p : Profile) (u : List ℕ) (given : List Token) (old new : Games) (l m : Option (List ℕ)) (a c : Option (List ℕ)) (v w x y : ℕ)
    (have : HaveRead p l u old given) (going : old.converter.is_finished ≡ false) where
  abbrev on : games_calls.HasReadWithin p u old given
  on = still_within have going

  to : (result : Result Bool Fault) → ReadsSource old new result (between l m v w) (between a c x y)
      → AfterSource (start p u given old a (still_within have going)) u new result (between l m v w) c
  to result reads = reads.reads (start p u given old a on) u given (ahead p u given old a on) (begins p u given old a on reads.short)

  -- up to the end of a game
  pub source_game : ReadsSource old new (Ok true) (between l m v w) (between a c x y) → IsShown new.converter.reading.writing.is_silent a → NextGame p u given l m new a c
  source_game reads shown =
      let (so, ends) = to (Ok true) reads in
      game_read p u given old a on reads.short so.more l m so.consumed new.converter so.tokens c so.here shown new.unused so.unused ends reads.games reads.not_finished

  by_stop : (f : Fault) → old.converter.lexer.count ≤ 2 ^ 62 → new.converter.games ≡ old.converter.games → new.converter.just_finished ≡ None
      → IsStopShown new.converter.reading.writing.is_silent a f.reason → IsShown new.converter.reading.writing.is_silent a
      → SourceStops (start p u given old a (still_within have going)) u new.converter (between l m v w) c f → NextFault p u given l m new f a c
  by_stop _ short same none stop_shown shown (source_flow.at_token f more consumed stop) =
      stops_at p u given old a on short more l m consumed new.converter c new.unused same none f stop_shown stop
  by_stop _ short same none stop_shown shown (source_flow.past_limit f more consumed past) =
      passes_limit p u given old a on short more l m consumed new.converter c new.unused same none f shown past
  by_stop _ short same none stop_shown shown (source_flow.at_read f more consumed now tokens here no_more place is) =
      rw place (unread p u given old a on short more l m consumed new.converter c new.unused same none now tokens here (rw is at shown) no_more
      (sym (ap (λ (s : Converter). s.games) is)))

  -- up to a fault
  pub source_stops : (f : Fault) → ReadsSource old new (Err f) (between l m v w) (between a c x y)
      → IsStopShown new.converter.reading.writing.is_silent a f.reason → IsShown new.converter.reading.writing.is_silent a → NextFault p u given l m new f a c
  source_stops f reads stop_shown shown = by_stop f reads.short (omega (arith, reads.games)) reads.none_else stop_shown shown (to (Err f) reads)

  -- up to the end of the source
  pub source_ends : (last : Converter) (unused : List ℕ) (d : Option (List ℕ)) (k : ℕ) (result : Result Bool Fault)
      → ReadsSource old new (Ok false) (between l m v w) (between a c x y) → FinishesLeft false new.converter last result (between c d y k)
      → IsShown last.reading.writing.is_silent a → ((f : Fault) → result ≡ Err f → IsStopShown last.reading.writing.is_silent a f.reason)
      → ((f : Fault) → result ≡ Err f → IsStopShown last.reading.writing.is_silent c f.reason) → AfterNext p u given l m (games_of last unused) result a d
  source_ends last unused d k result reads left shown stop_shown shown_there = by_result result refl left
    where
      there : HasReadSince (start p u given old a (still_within have going)) u new (between l m v w) c × (new.unused ≡ []) × IsAtEnd m
      there = to (Ok false) reads

      so : HasReadSince (start p u given old a (still_within have going)) u new (between l m v w) c
      so = there.0

      none : drop new.converter.lexer.count (u ++ so.more) ≡ []
      none = so.unused ∙ there.1

      same : new.converter.games ≡ old.converter.games
      same = omega (arith, reads.games)

      by_result : (r : Result Bool Fault) → result ≡ r → FinishesLeft false new.converter last r (between c d y k) → AfterNext p u given l m (games_of last unused) r a d
      by_result (Ok finished_game) is left =
          let done = left.reads (start p u given old a on) (ended (u ++ so.more)) so.tokens tt
          (whole_there p u given old a on so.more l m so.consumed there.2 new.converter so.tokens c so.here none reads.not_finished same last unused d) in
          ended_now p u given old a on so.more l m so.consumed there.2 new.converter so.tokens c so.here none reads.not_finished same last unused d
          done.0 done.1 shown left.finished finished_game left.games
      by_result (Err f) is left =
          stopped p u given old a on so.more l m so.consumed there.2 new.converter so.tokens c so.here none reads.not_finished same last unused d
          f y k left.reads (stop_shown f is) (shown_there f is) left.games

-- ---- a turn of `read_source`

-- nothing was given yet
pub given_none : (old : Games) (left o : Option (List ℕ)) (x y : ℕ) → ReadsSince old old (between left left x x) (between o o y y)
given_none old left o x y start u tokens ahead here =
    record { more = []; consumed = Consumes-nil left; unused = rw (append-nil u) ahead; tokens = tokens; here = rw (append-nil u) here }

module _ (old now : Games) (new : Converter) (l m : Option (List ℕ)) (a b c : Option (List ℕ)) (v w x y z : ℕ)
    (given_so_far : ReadsSince old now (between l m v w) (between a b x y)) where
  pub fed_game : (used : ℕ) → FeedsPiece now.converter now.unused new (Ok (GameEnd used)) (between b c y z)
      → (start : Start) (u : List ℕ) (tokens : List Token) → drop old.converter.lexer.count u ≡ old.unused → At start (so_far (within_limit u)) old.converter tokens a
      → AfterSource start u (games_of new (drop used now.unused)) (Ok true) (between l m v w) c
  fed_game used feeds start u tokens ahead here =
      let so = given_so_far start u tokens ahead here in
      let to = feeds.reads start (u ++ so.more) so.tokens so.unused so.here in (
        record {
          more = so.more;
          consumed = so.consumed;
          unused = unused_now (u ++ so.more) now.unused _ _ used so.unused feeds.goes.count;
          tokens = to.0;
          here = to.1;
        },
        to.2,
      )

  pub fed_fault : (f : Fault) → FeedsPiece now.converter now.unused new (Err f) (between b c y z)
      → (start : Start) (u : List ℕ) (tokens : List Token) → drop old.converter.lexer.count u ≡ old.unused → At start (so_far (within_limit u)) old.converter tokens a
      → SourceStops start u new (between l m v w) c f
  fed_fault f feeds start u tokens ahead here =
      let so = given_so_far start u tokens ahead here in
      elim (feeds.reads start (u ++ so.more) so.tokens so.unused so.here) [
        | inl stop ↦ source_flow.at_token f so.more so.consumed stop
        | inr past ↦ source_flow.past_limit f so.more so.consumed past
      ]

  module _ (feeds : FeedsPiece now.converter now.unused new (Ok All) (between b c y z)) where
    -- all unused bytes are used
    none_left : (s : List ℕ) → drop now.converter.lexer.count s ≡ now.unused → drop new.lexer.count s ≡ []
    none_left s unused = unused_now s now.unused _ _ _ unused feeds.goes.count ∙ drop-length now.unused

    -- and the source gives more
    pub given_more : (piece : List ℕ) (n : Option (List ℕ)) (k : ℕ) → Consumes m n piece
        → ReadsSince old (games_of new piece) (between l n v k) (between a c x z)
    given_more piece n k consumed start u tokens ahead here =
        let so = given_so_far start u tokens ahead here in
        let to = feeds.reads start (u ++ so.more) so.tokens so.unused so.here in
        let none = none_left (u ++ so.more) so.unused in
        let size = all_used start (u ++ so.more) piece new to.0 c to.1 none in
        record {
          more = so.more ++ piece;
          consumed = Consumes-trans l m n so.more piece so.consumed consumed;
          unused = ap (drop new.lexer.count) (sym (append_assoc u so.more piece)) ∙ ap (λ at. drop at ((u ++ so.more) ++ piece)) size ∙ drop-append_seam (u ++ so.more) piece;
          tokens = to.0;
          here = rw (append_assoc u so.more piece) at (filled start (u ++ so.more) piece new to.0 c to.1 none);
        }

    -- or a read fails
    pub read_fails : (n : Option (List ℕ)) (k : ℕ) (f : Fault) (next : Converter) → Keeps m n → f ≡ record { at = new.lexer.count; reason = ReadFault }
        → next ≡ record new { just_finished = None; fault = Some f }
        → (start : Start) (u : List ℕ) (tokens : List Token) → drop old.converter.lexer.count u ≡ old.unused → At start (so_far (within_limit u)) old.converter tokens a
        → SourceStops start u next (between l n v k) c f
    read_fails n k f next keeps place is start u tokens ahead here =
        let so = given_so_far start u tokens ahead here in
        let to = feeds.reads start (u ++ so.more) so.tokens so.unused so.here in
        source_flow.at_read f so.more (Consumes-kept l m n so.more so.consumed keeps) new to.0 to.1 (none_left (u ++ so.more) so.unused) place is
