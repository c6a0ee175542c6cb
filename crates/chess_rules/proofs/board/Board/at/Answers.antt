use Rattle.chess_rules.proofs.Words.{Square, Board, at, cell_of, has, cells, coded, ◌≡◌, ◌<◌, Bool, refl, arith, common_steps, Inside}
use Rattle.chess_rules.proofs.sets.WordsToCells.{cell_there}
use Rattle.chess_rules.proofs.board.Board.at.Goals as goal

content : (w : Inside) (b : Board) (s : Square) (x y z d : Bool) → cells w ≡ b → cell_of s < 64
    → x ≡ has w.straight (cell_of s) → y ≡ has w.diagonal (cell_of s)
    → z ≡ has w.near (cell_of s) → d ≡ has w.black (cell_of s) → coded x y z d ≡ at b s
content w b s x y z d is low e f g h = grind (arith, common_steps, coded, has, cell_of, cell_there)

pub returns-in-false-false-false : goal.returns-in-false-false-false
returns-in-false-false-false c =
    let there : coded c.has-straight.result c.has-diagonal.result c.has.result (has c.self.inside.black (cell_of c.args.square))
    ≡ at c.args.self.now c.args.square =
    content c.self.inside c.args.self.now c.args.square _ _ _ _ c.self.view_is c.has.ensures.inside
    c.has-straight.ensures.value c.has-diagonal.ensures.value c.has.ensures.value refl in
    grind (arith, there)

pub returns-then-has-2 : goal.returns-then-has-2
returns-then-has-2 c =
    let there : coded c.has-straight.result c.has-diagonal.result c.has.result c.has-2.result ≡ at c.args.self.now c.args.square =
    content c.self.inside c.args.self.now c.args.square _ _ _ _ c.self.view_is c.has.ensures.inside
    c.has-straight.ensures.value c.has-diagonal.ensures.value c.has.ensures.value c.has-2.ensures.value in
    grind (arith, there)

pub returns-else-has-2 : goal.returns-else-has-2
returns-else-has-2 c =
    let there : coded c.has-straight.result c.has-diagonal.result c.has.result c.has-2.result ≡ at c.args.self.now c.args.square =
    content c.self.inside c.args.self.now c.args.square _ _ _ _ c.self.view_is c.has.ensures.inside
    c.has-straight.ensures.value c.has-diagonal.ensures.value c.has.ensures.value c.has-2.ensures.value in
    grind (arith, there)
