use Rattle.pgn_game.proofs.Words.{rules, ◌≡◌, Bool, true, false, not, Option, List, ℕ, None, Some, refl, Bor, option_copied, false≢true, is_some}
use Rattle.pgn_game.proofs.pairs.ExportedValues.{exported_either, exported_none}
use Rattle.pgn_game.proofs.pairs.ValuesByName.{either_of}
use Rattle.pgn_game.proofs.section.exported_value.Goals as goal
use Rattle.pgn_game.proofs.section.exported_value.Goals.{else-is_none-via-then-is_none+else-eq, else-is_none-via-else-is_none}

none_copied : (o : Option (Bor (List ℕ))) (t : Bool) → is_some o ≡ not t → t ≡ true → option_copied o ≡ None
none_copied None t is e = refl
none_copied (Some v) t is e = absurd (cc)

some_copied : (o : Option (Bor (List ℕ))) (t : Bool) → is_some o ≡ not t → t ≡ false → option_copied o ≡ None → ⊥
some_copied None t is e none = absurd (cc)
some_copied (Some v) t is e none = absurd (cc)

pub returns-then-eq : goal.returns-then-eq
returns-then-eq c = search (rules, exported_none, none_copied)

pub returns-in-Some : goal.returns-in-Some
returns-in-Some c =
    search (rules, false≢true, exported_either, either_of, else-is_none-via-then-is_none+else-eq, else-is_none-via-else-is_none, some_copied)

pub returns-in-None : goal.returns-in-None
returns-in-None c =
    search (rules, false≢true, exported_either, either_of, else-is_none-via-then-is_none+else-eq, else-is_none-via-else-is_none, some_copied)
