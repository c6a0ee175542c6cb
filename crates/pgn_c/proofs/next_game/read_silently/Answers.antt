use Rattle.pgn_c.proofs.Words.{◌≡◌, Bool, true, drop, ap, text_from, ◌∙◌, arith, common_steps, Converter, nowhere}
use Rattle.pgn_c.specs.NextGameSteps.{profile_if, silenced_if}
use Rattle.pgn_c.proofs.NextGames.{finds_as}
use Rattle.pgn_c.proofs.next_game.read_silently.Goals as goal

count_same : (takes : Bool) (c : Converter) → (silenced_if takes c).lexer.count ≡ c.lexer.count
count_same takes c = grind (arith, common_steps)

finished_same : (takes : Bool) (c : Converter) → (silenced_if takes c).is_finished ≡ c.is_finished
finished_same takes c = grind (arith, common_steps)

fault_same : (takes : Bool) (c : Converter) → (silenced_if takes c).fault ≡ c.fault
fault_same takes c = grind (arith, common_steps)

is_silent : (takes : Bool) (c : Converter) → (silenced_if takes c).reading.writing.is_silent ≡ true
is_silent takes c = grind (arith, common_steps)

pub run_next-requires : goal.run_next-requires
run_next-requires c = grind (arith, common_steps, count_same, finished_same, fault_same)

pub returns : goal.returns
returns c =
    let takes = c.args.takes_marker in
    let silent = ap (λ (s : Converter). s.reading.writing.is_silent) c.silence.ensures.only_switch ∙ is_silent takes c.args.converter.now in
    record {
      reads = λ mode begins.
          let p = profile_if takes mode in
          finds_as p (text_from c.args.text.now c.args.from) (drop c.args.from c.args.text.now)
          c.run_next.result c.run_next.new.converter nowhere _ true silent
          (c.run_next.ensures.runs p (c.silence.ensures.begins mode c.args.text.now c.args.from begins));
      not_full = λ is. let fails = rw silent at c.run_next.ensures.full is in omega (arith, fails);
    }
