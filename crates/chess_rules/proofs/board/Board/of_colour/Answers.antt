use Rattle.chess_rules.proofs.Words.{at, has_colour, ◌∙◌, sym, ap}
use Rattle.chess_rules.proofs.sets.SetsToSquares.{places_and, places_not, places_same}
use Rattle.chess_rules.proofs.sets.WordsToCells.{black_places, white_is}
use Rattle.chess_rules.proofs.board.Board.of_colour.Goals as goal

pub returns-in-White : goal.returns-in-White
returns-in-White c =
    let b = c.args.self.now in
    places_same _ _ _
    (places_and _ _ _ _ _ c.bitand.ensures c.occupied.ensures
    (places_not _ _ _ c.not.ensures (black_places c.self.inside b c.self.view_is c.self.invariant)))
    (λ s. white_is (at b s) ∙ ap (λ d. has_colour d (at b s)) (sym c.in-White.is))

pub returns-in-Black : goal.returns-in-Black
returns-in-Black c =
    let b = c.args.self.now in
    places_same _ _ _ (black_places c.self.inside b c.self.view_is c.self.invariant) (λ s. ap (λ d. has_colour d (at b s)) (sym c.in-Black.is))
