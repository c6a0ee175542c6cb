use Rattle.pgn_c.proofs.Words.{rules, common_steps, ap, arith, drop, get_or, sym, take, ◌+◌, ◌-◌, ◌≡◌, ◌∙◌, take_rest, none-some, prefix_len, continues_symbol}
use Rattle.pgn_c.proofs.NumbersRead.{letter_turn, other_turn, period_turn, space_turn, starts_by, starts_by_none, symbol_turn, wrong_turn}
use Rattle.pgn_c.proofs.UnusualRead.{letter_sees, number_sees, other_sees, period_sees, space_sees}
use Rattle.pgn_c.proofs.move_numbers.read_numbers.Goals as goal

pub loop-at-preserved-then-is_letter : goal.loop-at-preserved-then-is_letter
loop-at-preserved-then-is_letter c = grind (arith, common_steps, take_rest, letter_turn, letter_sees)

pub loop-at-preserved-then-is_space : goal.loop-at-preserved-then-is_space
loop-at-preserved-then-is_space c = grind (arith, common_steps, space_turn, space_sees)

pub loop-at-preserved-then-is_digit : goal.loop-at-preserved-then-is_digit
loop-at-preserved-then-is_digit c =
    let cut : c.loop-at.at + c.symbol_length-length.result - c.loop-at.at ≡ c.symbol_length-length.result = omega arith in
    let length = (c.symbol_length-length.ensures.value ∙ ap (prefix_len continues_symbol) (take_rest c.args.text.now c.loop-at.at)) in
    let digit = sym c.is_digit.ensures ∙ c.if-is_digit.true in
    rw (c.with_symbol-numbering.ensures, c.is_unusual_number-is_unusual.ensures) (record {
      turn = symbol_turn c.args.text.now c.loop-at.numbering c.loop-at.at c.loop-at.invariant.turn (omega (arith, c.loop-at-test.true)) c.symbol_length-length.result _
          (starts_by (get_or c.args.text.now c.loop-at.at 0) digit) length (ap (λ n. take n (drop c.loop-at.at c.args.text.now)) cut);
      sees = number_sees c.args.text.now c.loop-at.is_unusual c.loop-at.at c.loop-at.invariant.sees (omega (arith, c.loop-at-test.true)) c.symbol_length-length.result (sym c.is_letter.ensures ∙ c.if-is_letter.false) digit length;
    })

pub returns-in-Some : goal.returns-in-Some
returns-in-Some c = search (rules, wrong_turn, none-some)

pub loop-at-preserved-then-byte-eq46 : goal.loop-at-preserved-then-byte-eq46
loop-at-preserved-then-byte-eq46 c = search (rules, period_turn, period_sees)

pub loop-at-preserved : goal.loop-at-preserved
loop-at-preserved c = grind (arith, common_steps, take_rest, other_turn, starts_by_none, other_sees)
