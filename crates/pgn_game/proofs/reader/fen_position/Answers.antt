use Rattle.pgn_game.proofs.Words.{◌≡◌, false, not, codes, bytes_eq, sym, ap, ◌∙◌, Ok, Err}
use Rattle.pgn_game.proofs.ReaderLemmas.{told_read}
use Rattle.pgn_game.proofs.reader.fen_position.Goals.{After-read_fen}
use Rattle.pgn_game.proofs.reader.fen_position.Goals as goal

named : (c : After-read_fen) → not (bytes_eq c.args.name.now (codes "FEN")) ≡ false
named c = ap (λ bs. not (bytes_eq c.args.name.now bs)) (sym c.as_slice.ensures) ∙ sym c.ne.ensures ∙ c.if-ne.false

pub returns-in-Ok : goal.returns-in-Ok
returns-in-Ok c =
    sym (told_read c.args.name.now c.args.value.now (Ok c.in-Ok.start) (named (goal.at.returns-in-Ok c).After-read_fen) (sym c.in-Ok.is ∙ c.read_fen.ensures))

pub returns-in-Err : goal.returns-in-Err
returns-in-Err c =
    sym (told_read c.args.name.now c.args.value.now (Err c.in-Err.fault) (named (goal.at.returns-in-Err c).After-read_fen) (sym c.in-Err.is ∙ c.read_fen.ensures))
