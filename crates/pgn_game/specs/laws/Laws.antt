-- **Definition**: what the law says of output: it only grows.
use Rattle.std.specs.Prelude.{◌≡◌, ℕ, List, ◌++◌}
use Rattle.pgn_lexer.specs.Tokens.{Token}
use Rattle.pgn_game.specs.games.Profile.{Profile}
use Rattle.pgn_game.specs.games.Progress.{due}

-- ys begins with xs
abbrev pub IsPrefix : List ℕ → List ℕ → Type 0
IsPrefix xs ys = (zs : List ℕ) × (ys ≡ xs ++ zs)

-- With more tokens the output only grows: nothing is taken back.
abbrev pub DueGrows : Type 0
DueGrows = (p : Profile) (ts us : List Token) → IsPrefix (due p ts) (due p (ts ++ us))
