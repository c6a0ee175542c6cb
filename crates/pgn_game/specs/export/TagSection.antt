-- **Definition**: the tag section (PGN 8.1, 3.2.4).
use Rattle.std.specs.Prelude.{ℕ, Bool, true, false, ◌||◌, not, bytes_eq, List, [], ◌∷◌, ◌++◌, map, filter, unwrap_or, codes}
use Rattle.pgn_layout.specs.TagLine.{tag_line}
use Rattle.pgn_game.specs.declared.mode.Mode.{Mode}
use Rattle.pgn_game.specs.declared.mode.Mode.TheVariants.{Full, Reduced}
use Rattle.pgn_game.specs.games.Pairs.{Pair, value_of, has_pair, insert_pair}

-- the seven tag roster in its order, each with its default (PGN 8.1.1); the default of Result is
-- given. It is `unfoldable`, so that goals show it by its name.
unfoldable pub roster : List ℕ → List Pair
roster result =
    record { name = codes "Event"; value = codes "?" } ∷ record { name = codes "Site"; value = codes "?" }
    ∷ record { name = codes "Date"; value = codes "????.??.??" } ∷ record { name = codes "Round"; value = codes "?" }
    ∷ record { name = codes "White"; value = codes "?" } ∷ record { name = codes "Black"; value = codes "?" }
    ∷ record { name = codes "Result"; value = result } ∷ []

-- whether a name is one of the roster
abbrev pub in_roster : List ℕ → Bool
in_roster name =
    bytes_eq name (codes "Event") || bytes_eq name (codes "Site") || bytes_eq name (codes "Date") || bytes_eq name (codes "Round")
    || bytes_eq name (codes "White") || bytes_eq name (codes "Black") || bytes_eq name (codes "Result")

-- the roster with the values that the game has
abbrev pub roster_pairs : List ℕ → List Pair → List Pair
roster_pairs result ps = map (λ d. record { name = d.name; value = unwrap_or (value_of ps d.name) d.value }) (roster result)

-- A game with a FEN is written with SetUp 1, for any SetUp of its own. In another game SetUp stays
-- as it is (PGN 9.7.1).
abbrev pub with_set_up : List Pair → List Pair
with_set_up ps =
    elim (has_pair ps (codes "FEN")) [
      | true ↦ insert_pair (record { name = codes "SetUp"; value = codes "1" }) (filter (λ p. not (bytes_eq p.name (codes "SetUp"))) ps)
      | false ↦ ps
    ]

-- the pairs that are not of the roster
abbrev pub other_pairs : List Pair → List Pair
other_pairs ps = filter (λ p. not (in_roster p.name)) ps

-- The pairs that are written, if those of the game are in ASCII order: the roster, and in full mode
-- the others after it (PGN 8.1.1). `result` is the value of a missing Result.
abbrev pub exported : Mode → List ℕ → List Pair → List Pair
exported Full result ps = roster_pairs result ps ++ other_pairs (with_set_up ps)
exported Reduced result ps = roster_pairs result ps

-- a line for each pair
abbrev pub tag_lines : List Pair → List ℕ
tag_lines [] = []
tag_lines (p ∷ ps) = tag_line p.name p.value ++ tag_lines ps

-- the lines of the pairs, and an empty line
abbrev pub tag_section : Mode → List ℕ → List Pair → List ℕ
tag_section mode result ps = tag_lines (exported mode result ps) ++ 10 ∷ []
