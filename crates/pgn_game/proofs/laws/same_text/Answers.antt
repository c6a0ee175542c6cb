use Rattle.pgn_game.proofs.exporting.ExportAgain as export_again
use Rattle.pgn_game.proofs.exporting.ExportToGames.{exported_games}
use Rattle.pgn_game.proofs.laws.same_text.Goals as goal

pub returns : goal.returns
returns c =
    export_again.same_text c.unique_reading.ensures c.tokens_rise.ensures
    (exported_games (record {
      one_read = c.the_one_move_is_read.ensures;
      leaves = c.a_legal_move_leaves_a_position.ensures;
      is_symbol = c.a_written_move_is_a_symbol.ensures;
      is_read = c.a_written_move_is_read_as_itself.ensures;
      numbers = c.numbers_are_symbols.ensures;
    })
    c.reading_is_spelling.ensures c.lines_keep_tokens.ensures.computed
    c.tokens_are_sound.ensures c.written_tokens_are_read_back.ensures.kinds)
