use Rattle.pgn_c.proofs.Words.{ap, ◌∙◌, Converter}
use Rattle.pgn_c.proofs.next_game.converter_at.Goals as goal

pub returns : goal.returns
returns c =
    let begun = c.begin_at-converter.ensures in
    let counts = c.count_missing_result_as.ensures in
    record {
      begins = rw (← c.is_first_column-place.ensures) (counts.stands _ _ _ begun.stands);
      count = ap (λ (s : Converter). s.lexer.count) counts.only_profile ∙ begun.count;
      not_finished = ap (λ (s : Converter). s.is_finished) counts.only_profile ∙ begun.not_finished;
      writes = ap (λ (s : Converter). s.reading.writing.is_silent) counts.only_profile ∙ begun.writes;
    }
