use Rattle.pgn_c.proofs.Words.{◌≡◌, ℕ, length, take, drop, Some, ap, sym, subst, ◌∙◌, arith, length-take-le, NextOf, profile_counting, text_from}
use Rattle.pgn_c.proofs.ConversionToBuffer.{filled}
use Rattle.pgn_c.proofs.next_game.fill_next.Goals as goal

pub returns-clause-converts : goal.returns-clause-converts
returns-clause-converts g c =
    let call = c.read_next-found in
    let sink = call.new.out in
    let text = c.args.text.now in
    let from = c.args.from in
    let found = call.result in
    let written = take sink.room.written sink.room.buffer.now in
    let is_count : length written ≡ sink.room.written = length-take-le _ _ sink.within in
    record {
      found = found;
      written = written;
      next = subst (λ (n : ℕ). NextOf (profile_counting c.args.mode c.args.missing) (text_from text from)
          (drop from text) found (Some (take n c.new.result.buffer.now)) (Some written))
          c.new.ensures.written call.ensures.next;
      filled = filled _ _ _ sink.within sink.long sink.behind;
      full = λ is. is_count ∙ sink.full (omega (arith, call.ensures.full is, c.new.ensures.failures)) ∙ sink.long;
      is_result = ap (λ (n : ℕ). record found { written = n }) (sym is_count);
    }
