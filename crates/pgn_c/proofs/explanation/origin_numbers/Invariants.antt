use Rattle.pgn_c.proofs.Words.{◌≡◌, map, length, take}
use Rattle.pgn_c.specs.Explanation.{origin_number}
use Rattle.pgn_c.proofs.explanation.origin_numbers.Given as goal

-- the numbers of the squares so far
abbrev pub invariant-loop-index : goal.invariant-loop-index
invariant-loop-index l =
    record {
      long : length l.numbers ≡ 64;
      so_far : take l.index l.numbers ≡ map origin_number (take l.index l.kinds);
    }
