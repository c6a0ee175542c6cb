use Rattle.pgn_c.proofs.Words.{◌≡◌, ℕ, [], length, take, false, Some, ap, sym, subst, ◌∙◌, length-take-le, profile_in, result_of, AfterSlice}
use Rattle.pgn_c.proofs.ConversionToBuffer.{front, filled, is_full, when_ok}
use Rattle.pgn_c.proofs.fill.Goals as goal

pub returns-clause-converts : goal.returns-clause-converts
returns-clause-converts g c =
    let call = c.convert_slice-outcome in
    let sink = call.new.writer in
    let text = c.args.text.now in
    let outcome = call.result in
    let is_count : length (take sink.room.written sink.room.buffer.now) ≡ sink.room.written = length-take-le _ _ sink.within in
    let converts : AfterSlice false (profile_in c.args.mode) text outcome (Some []) (Some (take sink.room.written sink.room.buffer.now)) =
    subst (λ (n : ℕ).
    AfterSlice false (profile_in c.args.mode) text outcome (Some (take n c.new.result.buffer.now)) (Some (take sink.room.written sink.room.buffer.now)))
    c.new.ensures.written call.ensures.converts in
    record {
      outcome = outcome;
      written = take sink.room.written sink.room.buffer.now;
      converts = converts;
      front = front _ _ _ outcome c.due_grows.ensures c.decided_is_prefix.ensures converts;
      filled = filled _ _ _ sink.within sink.long sink.behind;
      full = λ is. is_count ∙ sink.full
          (is_full outcome _ _ call.ensures.counted c.new.ensures.failures (sym (ap (λ r. r.status) c.result_for.ensures) ∙ is)) ∙ sink.long;
      short = λ is. when_ok outcome _ call.ensures.short (sym (ap (λ r. r.status) c.result_for.ensures) ∙ is);
      is_result = c.result_for.ensures ∙ ap (result_of outcome) (sym is_count);
    }
