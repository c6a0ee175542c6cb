use Rattle.chess_rules.proofs.Words.{Pawn, Piece, at, is_pawn, has_kind, Places, word, ◌≡◌, ◌&&◌, ◌||◌, refl, arith, Option, ◌==◌, common_steps, rules}
use Rattle.chess_rules.proofs.sets.SetsToSquares.{places_and, full_when}
use Rattle.chess_rules.proofs.sets.TablesOfSquares.{mask, places}
use Rattle.chess_rules.proofs.position.has_pawn_on_edge.Goals as goal

edges : Places 18374686479671623935 (λ s. (s.rank == 0) || (s.rank == 7))
unfolding mask word
edges = places (λ s. (s.rank == 0) || (s.rank == 7)) 18374686479671623935 refl

either_colour : (cell : Option Piece) → has_kind Pawn cell ≡ is_pawn cell
either_colour cell = grind arith

pub returns : goal.returns
returns c = search (rules, there, full_when)
  where
    both : Places c.bitand.result (λ s. ((s.rank == 0) || (s.rank == 7)) && has_kind Pawn (at c.args.board.now s))
    both = grind (arith, common_steps, places_and, edges)

    there : Places c.bitand.result (λ s. ((s.rank == 0) || (s.rank == 7)) && is_pawn (at c.args.board.now s))
    there = grind (arith, common_steps, both, either_colour)
