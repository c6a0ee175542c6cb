-- **Definition**: the law that joins the calls of `Games::next`.
-- Letters: p is the profile, s a text, `left` are the bytes that the source has left before the
-- first call, `before` those that the sink has taken then. `left_new` and `after` are these after
-- the last call. `taken` are the games just finished after each call, in their order.
use Rattle.std.specs.Prelude.{◌≡◌, ℕ, ◌∷◌, ◌++◌, ◌^◌, ◌≤◌, true, false, List, [], length, map, sum, Bool, Option, Some, Result, Ok, Err, IfSome}
use Rattle.std.specs.Io.KnownBytes.{Appends, Consumes}
use Rattle.pgn_layout.specs.Device.{Device}
use Rattle.pgn_lexer.specs.Tokens.{Token}
use Rattle.pgn_lexer.specs.TokensOf.{tokens_of}
use Rattle.pgn_game.specs.declared.reason.Fault.{Fault}
use Rattle.pgn_game.specs.games.Profile.{Profile}
use Rattle.pgn_game.specs.export.Text.{text_of}
use Rattle.pgn_game.specs.games.Progress.{output, totals, verdict}
use Rattle.pgn_game.specs.public.ConverterCalls.{FinishedGame, finished_game_of}
use Rattle.pgn_game.specs.public.Conversion.{Fails}
use Rattle.pgn_game.specs.public.GamesCalls.{Games, HaveRead, ReadsNext}
use Rattle.pgn_game.specs.laws.GamesRestart.{games_read}

-- Calls of `next` one after another, which all returned `true`. Each gets the source and the sink
-- as the call before left them. After each its game is just finished.
pub data TakesGames (left before : Option (List ℕ)) (first : Games) : List FinishedGame → Games → Option (List ℕ) → Option (List ℕ) → Type 0 where
  none : TakesGames left before first [] first left before
  one_more : (taken : List FinishedGame) (game : FinishedGame) (old new : Games) (source sink : Device)
      → TakesGames left before first taken old source.before sink.before
      → ReadsNext old new (Ok true) source sink → new.converter.just_finished ≡ Some game
      → TakesGames left before first (taken ++ game ∷ []) new source.after sink.after

-- The source has given the bytes `bytes`. The tokens read are the first ones of its text. The games
-- taken are those of the tokens read. Their export text is written, and nothing else.
pub record TookGames (p : Profile) (left left_new : Option (List ℕ)) (taken : List FinishedGame) (before after : Option (List ℕ)) : Type 0 where
  pub bytes : List ℕ
  pub consumed : Consumes left left_new bytes
  pub tokens : List Token
  pub of_text : IfSome left (λ s. (later : List Token) × (tokens_of s ≡ tokens ++ later))
  pub games : taken ≡ map finished_game_of (games_read p tokens)
  pub written : Appends before after (text_of p (games_read p tokens))

-- The text s has at most 2^62 bytes. The games taken are all its games, their numbers are its
-- verdict, and its output is written.
pub record TookAll (p : Profile) (s : List ℕ) (taken : List FinishedGame) (before after : Option (List ℕ)) : Type 0 where
  pub short : length s ≤ 2 ^ 62
  pub games : taken ≡ map finished_game_of (games_read p (tokens_of s))
  pub counts : verdict p s ≡ totals (record { games = length taken; plies = sum (map (λ game. game.plies) taken) })
  pub written : Appends before after (output p s)

-- what all calls have done together, by the result of the last one
abbrev pub AfterCalls : Profile → Option (List ℕ) → Option (List ℕ) → List FinishedGame → Games → Result Bool Fault → Option (List ℕ) → Option (List ℕ) → Type 0
AfterCalls p left left_new taken new (Ok true) before after =
    (game : FinishedGame) → new.converter.just_finished ≡ Some game → TookGames p left left_new (taken ++ game ∷ []) before after
AfterCalls p left left_new taken new (Ok false) before after = IfSome left (λ s. TookAll p s taken before after)
AfterCalls p left left_new taken new (Err f) before after = Fails p left left_new before after f

-- That holds after any number of calls, if the first one got games that had read nothing.
abbrev pub GamesJoin : Type 0
GamesJoin =
    (p : Profile) (left before : Option (List ℕ)) (first old new : Games) (taken : List FinishedGame)
    (result : Result Bool Fault) (source sink : Device)
    → HaveRead p left [] first []
    → TakesGames left before first taken old source.before sink.before
    → ReadsNext old new result source sink
    → AfterCalls p left source.after taken new result before sink.after
