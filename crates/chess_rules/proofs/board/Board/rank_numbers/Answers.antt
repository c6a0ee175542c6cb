use Rattle.chess_rules.proofs.Words.{Black, has_colour, is_near, diagonal_of, straight_of, is_some, None, get_or, ℕ, ◌<◌, ◌∙◌, ap}
use Rattle.chess_rules.proofs.sets.AllSquares.{cell_of-square_at}
use Rattle.chess_rules.proofs.sets.RanksToWords.{cells_of_rank, on_rank, total}
use Rattle.chess_rules.proofs.sets.WordsToCells.{bits_there}
use Rattle.chess_rules.proofs.board.Board.rank_numbers.Goals as goal

pub returns : goal.returns
returns c =
    let w = c.self.inside in
    let b = c.args.self.now in
    let r = c.args.rank in
    let there = λ (i : ℕ) (low : i < 64). bits_there w b i c.self.view_is low c.self.invariant in
    let sum =
    total (cells_of_rank b r) 0 _ _ _ _ _
    (on_rank straight_of w.straight _ b r c.requires c.bits_on_rank.ensures.bits (λ i low. (there i low).straight))
    (on_rank diagonal_of w.diagonal _ b r c.requires c.bits_on_rank-2.ensures.bits (λ i low. (there i low).diagonal))
    (on_rank is_near w.near _ b r c.requires c.bits_on_rank-3.ensures.bits (λ i low. (there i low).near))
    (on_rank (has_colour Black) w.black _ b r c.requires c.bits_on_rank-4.ensures.bits (λ i low. (there i low).black))
    (on_rank is_some c.occupied.result _ b r c.requires c.bits_on_rank-5.ensures.bits
    (λ i low. c.occupied.ensures.of i low ∙ ap (λ k. is_some (get_or b k None)) (cell_of-square_at i))) in
    cc (sum, c.bytes_of_bits-straight.ensures, c.bytes_of_bits-diagonal.ensures, c.bytes_of_bits-near.ensures, c.bytes_of_bits-black.ensures, c.bytes_of_runs-runs.ensures)
