use Rattle.chess_text.proofs.Words.{◌++◌, ◌+◌, ◌≡◌, ◌≤◌, length, take, drop, rank_text, row}
use Rattle.chess_text.proofs.positions.NumbersToText.{RankWritten}
use Rattle.chess_text.proofs.placement.write_rank.Given as goal

-- the squares so far are written
abbrev pub invariant-loop : goal.invariant-loop
invariant-loop l =
    let rank = row l.fn.position.board l.fn.rank in
    record {
      squares : RankWritten (take l.fn.start l.fn.text ++ rank_text 0 rank) (l.fn.start + 8) l.text l.end l.numbers (drop l.counter rank);
      within : l.counter ≤ 8;
      long : length l.text ≡ length l.fn.text;
    }
