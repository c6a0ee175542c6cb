use Rattle.pgn_game.proofs.Words.{◌≡◌, ℕ, ◌≤◌, List, ◌++◌, take, drop, length, Result, Ok, Err, IsOk, length-take-le, Pair, take_at, drop_at, rules}
use Rattle.pgn_game.proofs.pairs.EscapedLength.{length-le-escaped}
use Rattle.std.specs.Result.{OnOk}
use Rattle.pgn_game.proofs.pair.TagPair.set_value.Goals as goal

-- a call that has the room it needs
when_ok : {T E P : Type 0} (r : Result T E) → IsOk r → OnOk r P → P
when_ok (Ok x) h p = p
when_ok (Err x) h p = cc

-- a text cut to its first bytes and lengthened by a value: these bytes and the value
parts : (text value cut more : List ℕ) (n : ℕ) → n ≤ length text → cut ≡ take n text → more ≡ cut ++ value
    → ◌≡◌ {A = Pair} (record { name = take n more; value = drop n more }) (record { name = take n text; value = value })
parts text value cut more n within is_cut is_more = search (rules, length-take-le, take_at, drop_at)

pub returns : goal.returns
returns c = search (rules, length-take-le, length-le-escaped, parts, when_ok)
