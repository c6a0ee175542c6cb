use Rattle.chess_rules.proofs.Words.{at, cell_of, put, refl, ◌∙◌, None, Inside}
use Rattle.chess_rules.proofs.sets.WordsToCells.{bits_there, cells_put, words_put}
use Rattle.chess_rules.proofs.board.Board.move_piece.Goals as goal

pub invariant_of-self : goal.invariant_of-self
invariant_of-self c =
    let b = c.args.self.now in
    let left : Inside = record { straight = c.with.result; diagonal = c.with-3.result; near = c.with-5.result; black = c.with-7.result } in
    let bits = bits_there c.self.inside b (cell_of c.args.from) c.self.view_is c.has.ensures.inside c.self.invariant in
    words_put left (record { straight = c.with-2.result; diagonal = c.with-4.result; near = c.with-6.result; black = c.with-8.result })
    (cell_of c.args.to) (at b c.args.from) _ _ _ _
    c.with-2.ensures c.with-4.ensures c.with-6.ensures c.with-8.ensures
    (c.has.ensures.value ∙ bits.straight) (c.has-2.ensures.value ∙ bits.diagonal)
    (c.has-3.ensures.value ∙ bits.near) (c.has-4.ensures.value ∙ bits.black)
    (words_put c.self.inside left
    (cell_of c.args.from) None _ _ _ _ c.with.ensures c.with-3.ensures c.with-5.ensures c.with-7.ensures refl refl refl refl c.self.invariant)

pub returns : goal.returns
returns c =
    let b = c.args.self.now in
    let left : Inside = record { straight = c.with.result; diagonal = c.with-3.result; near = c.with-5.result; black = c.with-7.result } in
    let bits = bits_there c.self.inside b (cell_of c.args.from) c.self.view_is c.has.ensures.inside c.self.invariant in
    cells_put left (record { straight = c.with-2.result; diagonal = c.with-4.result; near = c.with-6.result; black = c.with-8.result })
    (cell_of c.args.to) (at b c.args.from) _ _ _ _
    c.with-2.ensures c.with-4.ensures c.with-6.ensures c.with-8.ensures
    (c.has.ensures.value ∙ bits.straight) (c.has-2.ensures.value ∙ bits.diagonal)
    (c.has-3.ensures.value ∙ bits.near) (c.has-4.ensures.value ∙ bits.black)
    (put b c.args.from None)
    (cells_put c.self.inside left
    (cell_of c.args.from) None _ _ _ _ c.with.ensures c.with-3.ensures c.with-5.ensures c.with-7.ensures refl refl refl refl b c.self.view_is)
