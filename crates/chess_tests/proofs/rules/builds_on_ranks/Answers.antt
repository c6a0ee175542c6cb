use Rattle.std.specs.Prelude.{[], ◌∷◌, List, Option, None, Some}
use Rattle.std.proofs.Common.{refl}
use Rattle.chess_rules.specs.declared.piece.Colour.{Colour}
use Rattle.chess_rules.specs.declared.piece.Colour.TheVariants.{Black, White}
use Rattle.chess_rules.specs.declared.piece.Kind.{Kind}
use Rattle.chess_rules.specs.declared.piece.Kind.TheVariants.{Bishop, King, Knight, Pawn, Queen, Rook}
use Rattle.chess_rules.specs.declared.piece.Piece.{Piece}
use Rattle.chess_rules.specs.Words.{lanes, word}
use Rattle.chess_tests.proofs.rules.builds_on_ranks.Goals as goal

abbrev man : Colour → Kind → Option Piece
man colour kind = Some (record { colour = colour; kind = kind })

abbrev back : Colour → List (Option Piece)
back c = man c Rook ∷ man c Knight ∷ man c Bishop ∷ man c Queen ∷ man c King ∷ man c Bishop ∷ man c Knight ∷ man c Rook ∷ []

abbrev eight : Option Piece → List (Option Piece)
eight x = x ∷ x ∷ x ∷ x ∷ x ∷ x ∷ x ∷ x ∷ []

pub push_rank-requires : goal.push_rank-requires
unfolding lanes word
push_rank-requires g c = record { row = back Black; eight = refl; value = refl }

pub push_rank-requires-2 : goal.push_rank-requires-2
unfolding lanes word
push_rank-requires-2 g c = record { row = eight (man Black Pawn); eight = refl; value = refl }

pub push_rank-requires-in-loop : goal.push_rank-requires-in-loop
unfolding lanes word
push_rank-requires-in-loop g c = record { row = eight None; eight = refl; value = refl }

pub push_rank-requires-3 : goal.push_rank-requires-3
unfolding lanes word
push_rank-requires-3 g c = record { row = eight (man White Pawn); eight = refl; value = refl }

pub push_rank-requires-4 : goal.push_rank-requires-4
unfolding lanes word
push_rank-requires-4 g c = record { row = back White; eight = refl; value = refl }
