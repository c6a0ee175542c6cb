use Rattle.chess_text.proofs.Words.{arith, ◌∙◌, row}
use Rattle.chess_text.proofs.positions.NumbersToText.{same_text}
use Rattle.chess_text.proofs.fen_writer.WrittenRank.update.Goals as goal

-- the kept text has the numbers of this rank, so it is that of this rank too
pub returns-then-self-numbers : goal.returns-then-self-numbers
returns-then-self-numbers c =
    let kept = c.requires.text in
    let word = c.if-self-numbers.true ∙ c.rank_numbers-numbers.ensures in
    record {
      word = word;
      text =
          kept.is_text.text
          ∙ same_text c.args.self.now.numbers 0 kept.cells (row c.args.position.now.board c.args.rank) kept.eight
          (omega (arith, kept.eight)) kept.is_text.word word;
      short = kept.is_text.short;
      long = kept.is_text.long;
    }
