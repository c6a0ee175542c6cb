-- Calls of `next` one after another.
use Rattle.pgn_game.proofs.Words.{Profile, Game, ◌≡◌, ℕ, ◌-◌, ◌^◌, ◌∷◌, ◌++◌, true, false, List, [], map, Option, Some, Ok, Err, refl, subst, Consumes-nil, Consumes-trans, Appends, Consumes, coming, first, Token, tokens_of, plies_of, FinishedGame, finished_game_of, Games, HaveRead, ReadSoFar, NextGame, games_read, append_assoc, append-nil, map-append, length-map, IfSome, rules, length, sym, ap, ◌∙◌, arith, common_steps}
use Rattle.pgn_game.specs.public.GamesCalls as games_calls
use Rattle.pgn_game.specs.laws.GamesJoined as games_joined
use Rattle.pgn_game.specs.laws.GamesJoined.{TakesGames, GamesJoin}
use Rattle.pgn_game.proofs.stepping.AcceptedToConverter.{follows_first}
use Rattle.pgn_game.proofs.stepping.OneMoreToken.{gains_none, gains_more}
use Rattle.pgn_game.proofs.stepping.StepsInPiece.{before_more}
use Rattle.pgn_game.proofs.stepping.WholeInput.{games_stop, verdict_passes, appended, known_left, known_whole}

abbrev finished : List Game → List FinishedGame
finished games = map finished_game_of games

same_game : {o : Option FinishedGame} {x y : FinishedGame} → o ≡ Some x → o ≡ Some y → x ≡ y
same_game e f = cc

plies_taken : (games : List Game) → map (λ (game : FinishedGame). game.plies) (finished games) ≡ map plies_of games
plies_taken [] = refl
plies_taken (g ∷ games) = rw (plies_taken games)

-- the tokens read are the first ones of the text that the source had
first_of_text : {p : Profile} (left : Option (List ℕ)) {left_new : Option (List ℕ)} {u : List ℕ} {now : Games} {given : List Token}
    → Consumes left left_new u → HaveRead p left_new u now given → IfSome left (λ s. (later : List Token) × (tokens_of s ≡ given ++ later))
first_of_text left {left_new} {u} {now} {given} consumed (games_calls.within on) =
    known_left left left_new u (λ s. (later : List Token) × (tokens_of s ≡ given ++ later)) consumed (λ rest. (
      coming now.converter.lexer (now.unused ++ rest),
      cc (on.bytes, append_assoc on.used now.unused rest, (before_more now.unused (2 ^ 62 - length on.used) on.stands.lexer).tokens (now.unused ++ rest) (follows_first now.unused rest)),
    ))
first_of_text left {left_new} {u} {given} consumed (games_calls.at_end all) = search (rules, append-nil, known_whole)

-- what was read and written so far; the games taken are those read
record SoFar (p : Profile) (left before : Option (List ℕ)) (taken : List FinishedGame)
    (now : Games) (left_now after : Option (List ℕ)) : Type 0 where
  pub reads : ReadSoFar p left left_now now before after
  pub games : taken ≡ finished (games_read p reads.tokens)

taken_more : {p : Profile} {left left_old left_new before out after : Option (List ℕ)} {taken : List FinishedGame}
    (game : FinishedGame) {old new : Games}
    (so : SoFar p left before taken old left_old out)
    (next : NextGame p so.reads.bytes so.reads.tokens left_old left_new new out after) → new.converter.just_finished ≡ Some game
    → taken ++ game ∷ [] ≡ finished (games_read p next.tokens)
taken_more {p} game so next e = grind (arith, common_steps, same_game, map-append)

module _ (p : Profile) (left before : Option (List ℕ)) (first : Games) (begins : HaveRead p left [] first []) where
  so_far : {taken : List FinishedGame} {now : Games} {left_now after : Option (List ℕ)} → TakesGames left before first taken now left_now after
      → SoFar p left before taken now left_now after
  so_far games_joined.none =
      record {
        reads = record { bytes = []; tokens = []; consumed = Consumes-nil left; have_read = begins; gains = gains_none };
        games = refl;
      }
  so_far (games_joined.one_more taken game old new source sink calls reads e) =
      let so = so_far calls in
      let next = reads p so.reads.bytes so.reads.tokens so.reads.have_read in
      record {
        reads = search (rules, Consumes-trans, gains_more);
        games = taken_more game so next e;
      }

pub games_join : GamesJoin
games_join p left before first old new taken (Ok true) source sink begins calls reads = λ game e.
    let so = so_far p left before first begins calls in
    let next = reads p so.reads.bytes so.reads.tokens so.reads.have_read in
    record {
      bytes = so.reads.bytes ++ next.more;
      consumed = Consumes-trans left source.before source.after so.reads.bytes next.more so.reads.consumed next.consumed;
      tokens = next.tokens;
      of_text = first_of_text left
          (Consumes-trans left source.before source.after so.reads.bytes next.more so.reads.consumed next.consumed) next.have_read;
      games = taken_more game so next e;
      written = subst (Appends before sink.after) next.whole (appended (gains_more so.reads.gains next.gains));
    }
games_join p left before first old new taken (Ok false) source sink begins calls reads =
    let so = so_far p left before first begins calls in
    let end = reads p so.reads.bytes so.reads.tokens so.reads.have_read in
    let text = so.reads.bytes ++ end.more in
    let same : taken ≡ finished (games_read p (tokens_of text)) = so.games ∙ ap finished (sym end.no_game) in
    let games = games_read p (tokens_of text) in
    known_whole left source.after text (λ s. games_joined.TookAll p s taken before sink.after)
    (Consumes-trans left source.before source.after so.reads.bytes end.more so.reads.consumed end.consumed) end.have_read_all.at_end
    (record {
      short = end.have_read_all.short;
      games = same;
      counts = search (rules, verdict_passes, length-map, plies_taken);
      written = search (rules, appended, gains_more);
    })
games_join p left before first old new taken (Err f) source sink begins calls reads =
    let so = so_far p left before first begins calls in
    games_stop p left source.before source.after old before sink.before sink.after so.reads
    (reads p so.reads.bytes so.reads.tokens so.reads.have_read).stops
