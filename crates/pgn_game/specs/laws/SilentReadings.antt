-- **Definition**: the law of readings that write nothing.
-- Letters: p is the profile, ts are tokens, n and m are the most pairs tried for one of them.
use Rattle.std.specs.Prelude.{◌≡◌, ℕ, ◌≤◌, true, false, List, None}
use Rattle.pgn_lexer.specs.Tokens.{Token}
use Rattle.pgn_game.specs.games.Profile.{Profile}
use Rattle.pgn_game.specs.games.Progress.{read}
use Rattle.pgn_game.specs.public.MostTried.{MostTried}

-- How many pairs a silent reading tries for one token.
-- - `few`: at most 8.
-- - `fewer`: if no token is rejected, no more than a reading that writes.
pub record SilentReadings : Type 0 where
  pub few : (p : Profile) (ts : List Token) (n : ℕ) → MostTried true p ts n → n ≤ 8
  pub fewer : (p : Profile) (ts : List Token) (n m : ℕ) → (read p ts).fault ≡ None
      → MostTried true p ts n → MostTried false p ts m → n ≤ m
