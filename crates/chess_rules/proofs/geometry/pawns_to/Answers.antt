use Rattle.chess_rules.proofs.Words.{Colour, White, Black, Pawn, reaches, Places, word, refl, sym, subst}
use Rattle.chess_rules.proofs.sets.TablesOfSquares.{mask, mask_to, table_places}
use Rattle.chess_rules.proofs.geometry.pawns_to.Goals as goal

pub returns-in-White : goal.returns-in-White
unfolding mask_to mask word
returns-in-White c =
    subst (λ (d : Colour). Places c.of_bits.result (λ s. reaches Pawn d s c.args.target)) (sym c.in-White.is)
    (table_places (reaches Pawn White) _ c.args.target c.index.result _ refl c.of_bits.ensures c.index.ensures.below c.index.ensures.again)

pub returns-in-Black : goal.returns-in-Black
unfolding mask_to mask word
returns-in-Black c =
    subst (λ (d : Colour). Places c.of_bits-in-Black.result (λ s. reaches Pawn d s c.args.target)) (sym c.in-Black.is)
    (table_places (reaches Pawn Black) _ c.args.target c.index-in-Black.result _ refl
    c.of_bits-in-Black.ensures c.index-in-Black.ensures.below c.index-in-Black.ensures.again)
