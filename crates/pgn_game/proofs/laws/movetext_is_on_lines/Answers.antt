use Rattle.pgn_game.proofs.putting.ReadTokensFitOnLines as read_tokens_fit
use Rattle.pgn_game.proofs.laws.movetext_is_on_lines.Goals as goal

pub returns : goal.returns
returns c =
    read_tokens_fit.movetext_is_on_lines c.a_legal_move_leaves_a_position.ensures c.a_written_move_is_a_symbol.ensures
    c.reading_is_spelling.ensures c.moves_are_legal.ensures c.tokens_determine_lines.ensures c.tokens_are_sound.ensures
