use Rattle.pgn_sections.proofs.Words.{◌≡◌, ℕ, List, None, Some, ◌+◌, ◌-◌, length, sym, ◌∙◌, ap, ◌≤◌, arith, drop, drop-drop, length-drop, length-take-le, BadGame, common_steps}
use Rattle.pgn_sections.proofs.LineOfBytes.{line_read, place_shown}
use Rattle.pgn_sections.proofs.LinesInPieces.{no_line, no_whole_line, reads_on, reads_then, reads_whole, same_behind, shows, stops}
use Rattle.pgn_sections.proofs.bad_game.BadGame.next_section.Goals as goal

pub returns-in-Some-place_on-clause-place : goal.returns-in-Some-place_on-clause-place
returns-in-Some-place_on-clause-place c =
    let here = c.loop-length.invariant in
    let old = c.loop-length.self in
    let rest = c.loop-length.rest.now in
    let line = c.text_to.result.now in
    let n = c.in-Some.length in
    let first = sym c.line_length.ensures.length ∙ c.in-Some.is in
    let shown = place_shown old line c.line_of-line.result (Some c.in-Some-place_on.place) c.line_of-line.ensures.line (sym c.place_on.ensures.place ∙ c.in-Some-place_on.is) in
    let stop = stops old c.args.is_last rest line n first c.text_to.ensures c.in-Some-place_on.place shown in
    record {
      found = sym (here.whole.found ∙ stop.found);
      game = sym (here.whole.game ∙ stop.game);
      from = λ none. absurd cc;
      within = λ none. absurd cc;
      place = λ s follow.
          (here.on s follow).found ∙ shows old c.args.is_last rest line n first c.text_to.ensures c.in-Some-place_on.place s follow shown;
      goes_on = λ none. absurd cc;
      whole = λ none last. absurd cc;
    }

pub loop-length-preserved : goal.loop-length-preserved
loop-length-preserved c =
    let here = c.loop-length.invariant in
    let old = c.loop-length.self in
    let new = c.read_line.new.self in
    let rest = c.loop-length.rest.now in
    let line = c.text_to.result.now in
    let left = c.text_from-rest.result.now in
    let read = line_read old line c.line_of-line.result new c.line_of-line.ensures.line c.read_line.ensures.game in
    let at : new.at ≡ old.at + length line = ap (λ (g : BadGame). g.at) read in
    let n = c.in-Some.length in
    let within : n ≤ length rest = c.in-Some.ensures.within.1 in
    let size : length line ≡ n = ap length c.text_to.ensures ∙ length-take-le n rest within in
    let shorter = ap length c.text_from-rest.ensures ∙ length-drop n rest in
    let places : new.at - c.args.self.now.at ≡ old.at - c.args.self.now.at + n = omega (arith, at, size, here.from) in
    let first = sym c.line_length.ensures.length ∙ c.in-Some.is in
    let none = place_shown old line c.line_of-line.result None c.line_of-line.ensures.line (sym c.place_on.ensures.place ∙ c.in_default-place_on.is) in
    record {
      same = same_behind c.args.self.now old new line read here.same;
      from = omega (arith, at, here.from);
      count = omega (arith, at, size, shorter, within, here.count);
      rest = c.text_from-rest.ensures ∙ ap (λ (t : List ℕ). drop n t) here.rest ∙ drop-drop n (old.at - c.args.self.now.at) c.args.piece.now ∙ ap (λ (k : ℕ). drop k c.args.piece.now) (sym places);
      whole = reads_then c.args.self.now old new _ _ _ here.whole
          (reads_whole old c.args.is_last rest line n first c.text_to.ensures new left c.text_from-rest.ensures none read);
      on = λ s follow. reads_then c.args.self.now old new _ _ _ (here.on s follow)
          (reads_on old c.args.is_last rest line n first c.text_to.ensures new left s follow c.text_from-rest.ensures none read);
    }

pub returns-clause-place : goal.returns-clause-place
returns-clause-place c = grind (arith, common_steps, length, no_whole_line, no_line)
