use Rattle.chess_text.proofs.Words.{◌≡◌, ◌<◌, ◌^◌, true, take, list_all, is_digit, value}
use Rattle.chess_text.proofs.field.read_number.Given as goal

-- the number that the digits so far have, all of them digits
abbrev pub invariant-loop-byte : goal.invariant-loop-byte
invariant-loop-byte l =
    record {
      number : l.number ≡ value (take l.byte-index l.text);
      digits_alone : list_all is_digit (take l.byte-index l.text) ≡ true;
      small : l.number < 10 ^ l.byte-index;
    }
