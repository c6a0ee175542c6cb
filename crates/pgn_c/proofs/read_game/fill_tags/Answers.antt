use Rattle.pgn_c.proofs.Words.{◌≡◌, ℕ, length, take, Some, ap, sym, subst, arith, length-take-le, common_steps, Writes, finished_game_section}
use Rattle.pgn_c.proofs.ConversionToBuffer.{filled}
use Rattle.pgn_c.proofs.TagSections.{all_written, some_written}
use Rattle.pgn_c.proofs.read_game.fill_tags.Goals as goal

pub returns-in-Ok-clause-writes : goal.returns-in-Ok-clause-writes
returns-in-Ok-clause-writes g c =
    let call = c.write_tags-put in
    let sink = call.new.out in
    let section = finished_game_section c.args.converter.now in
    let written = take sink.room.written sink.room.buffer.now in
    let is_count : length written ≡ sink.room.written = length-take-le _ _ sink.within in
    let wrote = subst (λ (n : ℕ). Writes (Some (take n c.new.result.buffer.now)) (Some written) call.result section) c.new.ensures.written call.ensures.written in
    all_written section c.args.found _ _ written _ (rw c.in-Ok.is at wrote)
    (filled _ _ _ sink.within sink.long sink.behind) (ap (λ (n : ℕ). record c.args.found { written = n }) (sym is_count))

pub returns-in-Err-clause-writes : goal.returns-in-Err-clause-writes
returns-in-Err-clause-writes g c = grind (arith, common_steps, take, length, length-take-le, some_written)
