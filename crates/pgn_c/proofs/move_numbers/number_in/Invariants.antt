use Rattle.pgn_c.proofs.Words.{◌≡◌, ◌≤◌, true, take, fold, list_all, is_digit, one_digit_more}
use Rattle.pgn_c.proofs.move_numbers.number_in.Given as goal

-- the number that the digits so far have, all of them digits
abbrev pub invariant-loop-byte : goal.invariant-loop-byte
invariant-loop-byte l =
    record {
      number : l.number ≡ fold one_digit_more 0 (take l.byte-index l.text);
      digits_alone : list_all is_digit (take l.byte-index l.text) ≡ true;
      small : l.number ≤ 4294967295;
    }
