-- What `feed` promises of a piece of any length, from what it reads of it.
use Rattle.pgn_game.specs.declared.converter.Fed.{Fed}
use Rattle.pgn_game.specs.declared.converter.Fed.TheVariants.{All, Game as GameEnd}
use Rattle.std.proofs.Common.{length-take-le}
use Rattle.pgn_game.proofs.Words.{◌≡◌, ℕ, ◌+◌, ◌-◌, ◌≤◌, ◌<◌, ◌^◌, inl, inr, true, false, List, [], ◌∷◌, ◌++◌, length, take, drop, Option, None, Result, Ok, Err, refl, sym, ap, subst, ◌∙◌, arith, append-nil, length-append, length-drop, length-take, take_all, take-append-drop, take-take, drop-take, Token, Profile, Fault, InputTooLong, Converter, Stands, Follows, decided, within_limit, FedAll, FedGame, at_token, too_long, rules}
use Rattle.pgn_game.specs.public.ConverterCalls.{AfterFeed}
use Rattle.pgn_game.specs.steps.Flow.{At, FeedsPiece, Reached, ReachedWithin, ReadsNothing, Start, StopsAt, so_far}
use Rattle.pgn_game.proofs.stepping.BytesWithinLimit.{all_within, front_within}
use Rattle.pgn_game.proofs.stepping.OneMoreToken.{gains_none}
use Rattle.pgn_game.proofs.stepping.ReadsInText.{between}
use Rattle.pgn_game.proofs.stepping.StepsAtEnd.{let_go}
use Rattle.pgn_game.proofs.stepping.StepsInPiece.{before_more, decided_before, follows_front}
use Rattle.pgn_game.proofs.flow.Fed.{begins, fed_all, fed_game, fed_stops, is_ahead, start}
use Rattle.pgn_game.proofs.flow.Stops.{IsShown, IsStopShown}

-- from the call on no game is just finished
pub stands_on : {p : Profile} {old : Converter} {u : List ℕ} {b : Option ℕ} {given : List Token} → Stands p old u b given
    → Stands p (record old { just_finished = None }) u b given
stands_on {p} {old} {given = given} stands = record { known = stands.known; lexer = stands.lexer; has_read = let_go p old given stands.has_read }

-- no byte was fed
fed_none : {p : Profile} {old : Converter} {u : List ℕ} {b : Option ℕ} {given : List Token} (o : Option (List ℕ)) → Stands p old u b given
    → FedAll p u b given [] (record old { just_finished = None }) o o
fed_none {u = u} {given = given} o stands = search (rules, append-nil, stands_on, gains_none)

module _ (p : Profile) (u : List ℕ) (b : Option ℕ) (given : List Token) (old new : Converter) (piece : List ℕ) (n : ℕ) (a c : Option (List ℕ)) (x y : ℕ)
    (stands : Stands p old u b given) (going : old.is_finished ≡ false) (follows : Follows b piece) (place : length u + n ≡ 2 ^ 62) where
  abbrev front : List ℕ
  front = take n piece

  short : length (u ++ front) ≤ 2 ^ 62
  short = omega (arith, place, length-append u front, length-take n piece)

  -- the piece goes on past place 2^62
  goes_past : n < length piece → (now : Converter) → FedAll p u b given front now a c → new.reading ≡ now.reading
      → AfterFeed p u b given piece new (Err (record { at = 2 ^ 62; reason = InputTooLong })) a c
  goes_past more now fed same =
      too_long front (drop n piece) (sym (take-append-drop n piece)) (omega (arith, place, length-append u front, length-take-le n piece (omega (arith, more))))
      (omega (arith, length-drop n piece, more)) (now, fed, same)

  -- nothing is read
  after_none : take n piece ≡ [] → (result : Result Fed Fault) → ReadsNothing old piece new result × (c ≡ a) → AfterFeed p u b given piece new result a c
  after_none none result to = by_piece piece refl to.0
    where
      by_piece : (xs : List ℕ) → piece ≡ xs → ReadsNothing old xs new result → AfterFeed p u b given piece new result a c
      by_piece [] is nothing = rw (is, nothing.0, nothing.1, to.1) (fed_none a stands)
      by_piece (h ∷ rest) is nothing =
          let more : n < length piece = omega (arith, ap (length {A = ℕ}) none, ap (length {A = ℕ}) is, length-take n piece) in
          rw nothing.0 (goes_past more (record old { just_finished = None })
          (subst (λ (f : List ℕ). FedAll p u b given f (record old { just_finished = None }) a c) (sym none) (rw to.1 (fed_none a stands))) nothing.1)

  module _ (some : 0 < length front) where
    from : Follows b front
    from = follows_front b piece n follows

    any : 0 < length piece
    any = omega (arith, some, length-take n piece)

    abbrev begin : Start
    begin = start p u b given old front a stands going from some

    read_all : (now : Converter) (tokens : List Token) → At begin (so_far (u ++ front)) now tokens c → IsShown now.reading.writing.is_silent a
        → now.lexer.count ≡ length u + length front → now.just_finished ≡ None → now.games ≡ old.games → FedAll p u b given front now a c
    read_all now tokens at shown count none same = search (rules, fed_all, from)

    stopped : (f : Fault) → new.games ≡ old.games → IsStopShown new.reading.writing.is_silent a f.reason → StopsAt begin (so_far (u ++ front)) f new c
        → AfterFeed p u b given piece new (Err f) a c
    stopped f same shown to = at_token f (rw (front_within u piece n place) (fed_stops p u b given old front a stands going from some f new c same shown to))

    game_read : (used : ℕ) → used ≤ length front → new.lexer.count ≡ length u + used → new.games ≡ old.games + 1 → IsShown new.reading.writing.is_silent a
        → Reached begin (so_far (u ++ front)) new (Ok true) c → FedGame p u given piece used new a c
    game_read used inside count games shown there =
        let fed = fed_game p u b given old front a stands going from some new there.0 c there.1 shown used count short games there.2 in
        let within : used ≤ n = omega (arith, inside, length-take n piece) in
        let same : take used front ≡ take used piece = take-take used n piece within in
        let more : n ≡ used + (n - used) = omega (arith, within) in
        let rest : drop used front ≡ take (n - used) (drop used piece) = ap (λ k. drop used (take k piece)) more ∙ drop-take used (n - used) piece in
        let there_now = rw rest at (rw same at fed.stands) in
        record {
          tokens = fed.tokens;
          marker = fed.marker;
          game = fed.game;
          stands = record { known = there_now.known; lexer = before_more (drop used piece) (n - used) there_now.lexer; has_read = there_now.has_read };
          at_limit = λ h. fed.at_limit (ap (λ xs. length (u ++ xs)) same ∙ h) ∙ ap (λ xs. decided (u ++ xs)) same;
          decided = decided_before (u ++ take used piece) (drop used piece) (n - used) (rw rest at (rw same at fed.decided));
          next = rw (front_within u piece n place) (rw (all_within (u ++ front) short) at fed.next);
          ends = fed.ends;
          no_game = fed.no_game;
          one_game = fed.one_game;
          just_finished = fed.just_finished;
          gains = fed.gains;
        }

    after_some : (result : Result Fed Fault) → IsShown new.reading.writing.is_silent a → ((f : Fault) → result ≡ Err f → IsStopShown new.reading.writing.is_silent a f.reason)
        → FeedsPiece old piece new result (between a c x y) → AfterFeed p u b given piece new result a c
    after_some result shown stop_shown feeds = by_result result refl feeds there
      where
        begun : At begin (so_far (within_limit (u ++ piece))) old given a
        begun = rw (front_within u piece n place) (begins p u b given old front a stands going from some)

        there : ReachedWithin begin (u ++ piece) new result c
        there = feeds.reads begin (u ++ piece) given (is_ahead p u b given old piece a stands going follows any) begun

        by_result : (r : Result Fed Fault) → result ≡ r → FeedsPiece old piece new r (between a c x y) → ReachedWithin begin (u ++ piece) new r c
            → AfterFeed p u b given piece new r a c
        by_result (Ok All) is feeds there =
            let to = rw (front_within u piece n place) at there in
            let whole : length piece ≤ n = omega (arith, feeds.goes.short, feeds.goes.count, stands.lexer.count, place) in
            let all : take n piece ≡ piece = take_all n piece whole in
            rw all at (read_all new to.0 to.1 shown (omega (arith, feeds.goes.count, stands.lexer.count, ap (length {A = ℕ}) all)) feeds.goes.games.1 feeds.goes.games.0)
        by_result (Ok (GameEnd used)) is feeds there =
            let inside : used ≤ length front = omega (arith, feeds.goes.used, feeds.goes.short, feeds.goes.count, stands.lexer.count, place, length-take n piece) in
            game_read used inside (omega (arith, feeds.goes.count, stands.lexer.count)) feeds.goes.games.0 shown (rw (front_within u piece n place) at there)
        by_result (Err f) is feeds (inl to) = stopped f feeds.goes.games.0 (stop_shown f is) (rw (front_within u piece n place) at to)
        by_result (Err f) is feeds (inr past) =
            let at : At begin (so_far (u ++ front)) past.now past.tokens c = rw (front_within u piece n place) at past.reached in
            let more : n < length piece = omega (arith, past.long, place, length-append u piece) in
            let now_shown = rw past.same at shown in
            rw past.fault (goes_past more past.now
            (read_all past.now past.tokens at now_shown (omega (arith, past.count, place, more, length-take n piece)) past.none_just_finished
            (sym past.games ∙ feeds.goes.games.0)) past.same)

  pub after_feed : (result : Result Fed Fault) → IsShown new.reading.writing.is_silent a → ((f : Fault) → result ≡ Err f → IsStopShown new.reading.writing.is_silent a f.reason)
      → FeedsPiece old piece new result (between a c x y) → AfterFeed p u b given piece new result a c
  after_feed result shown stop_shown feeds = by_front (take n piece) refl
    where
      left : 2 ^ 62 - old.lexer.count ≡ n
      left = omega (arith, place, stands.lexer.count)

      by_front : (xs : List ℕ) → take n piece ≡ xs → AfterFeed p u b given piece new result a c
      by_front [] is = after_none is result (feeds.none (ap (λ k. take k piece) left ∙ is))
      by_front (h ∷ rest) is = after_some (rw is (omega arith)) result shown stop_shown feeds
