use Rattle.chess_text.proofs.Words.{◌≡◌, ◌∙◌, ap, arith, length, refl, rules, sym, take, refill, []}
use Rattle.chess_text.proofs.positions.BoardToText.{first_rank, refilled, next_rank, last_rank_written}
use Rattle.chess_text.proofs.fen_writer.FenWriter.push_board.Goals as goal

pub returns : goal.returns
returns c =
    let b = c.args.position.now.board in
    let eight = first_rank b [] _ refl c.copy_rank-end.ensures.text in
    let seven = next_rank b _ _ _ 0 eight (omega arith) refl c.copy_next_rank-end.ensures.text in
    let six = next_rank b _ _ _ 1 seven (omega arith) refl c.copy_next_rank-end-2.ensures.text in
    let five = next_rank b _ _ _ 2 six (omega arith) refl c.copy_next_rank-end-3.ensures.text in
    let four = next_rank b _ _ _ 3 five (omega arith) refl c.copy_next_rank-end-4.ensures.text in
    let three = next_rank b _ _ _ 4 four (omega arith) refl c.copy_next_rank-end-5.ensures.text in
    let two = next_rank b _ _ _ 5 three (omega arith) refl c.copy_next_rank-end-6.ensures.text in
    let one = next_rank b _ _ _ 6 two (omega arith) refl c.copy_next_rank-end-7.ensures.text in
    let blank = c.try_extend_from_slice.new.self.items in
    let written = c.copy_next_rank-end-7.new.text in
    let long : length blank ≡ 72 = search rules in
    let same : refill (length blank) blank written ≡ written = refilled blank written (c.copy_next_rank-end-7.ensures.long ∙ sym long) in
    c.truncate.ensures.items ∙ ap (take c.copy_next_rank-end-7.result) same ∙ last_rank_written b _ 7 one (omega arith)
