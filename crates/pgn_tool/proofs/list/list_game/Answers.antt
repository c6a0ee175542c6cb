use Rattle.pgn_tool.proofs.Words.{◌∙◌, ap, decimal}
use Rattle.pgn_tool.proofs.runs.LineOfGame.{line_told}
use Rattle.pgn_tool.proofs.list.list_game.Goals as goal

pub returns-clause-written : goal.returns-clause-written
returns-clause-written g c =
    let number = c.as_bytes.ensures.value ∙ c.format.ensures.text ∙ ap decimal c.games.ensures in
    let plies = c.as_bytes-2.ensures.value ∙ c.format-2.ensures.text ∙ ap decimal c.plies.ensures in
    let position = c.as_slice.ensures.value ∙ c.write_fen-fen.ensures.text in
    let converter = c.args.games.now.converter in
    rw (line_told converter.just_finished converter.games converter.reading.profile c.in-Some.position.now c.in-Some.ensures)
    (rw (number, c.value.ensures, c.value-2.ensures, c.value-3.ensures, plies, position) at c.write_line.ensures.written)
