use Rattle.chess_rules.proofs.Words.{carried, short_right, long_right, short_wing, long_wing, Plain, EnPassant, ShortCastling, LongCastling, ◌≡◌, ◌∙◌, sym, ap, arith, Some}
use Rattle.chess_rules.proofs.moves.KindsOfSteps.{obeys_if_step, board_of_step, rook_waits}
use Rattle.chess_rules.proofs.step.board_after.Goals as goal
use Rattle.chess_rules.proofs.step.board_after.Goals.{in-None, in-Some}

pub returns-in-Plain : goal.returns-in-Plain
returns-in-Plain c =
    let p = c.args.position.now in
    let m = c.args.mv.now in
    let moved : c.match-mv.board ≡ carried p m = elim c.match-mv.branch [ in-None w ↦ grind arith | in-Some w ↦ grind arith ] in
    board_of_step p m Plain (sym c.in-Plain.is ∙ c.requires.kind.kind) c.requires.step ∙ ap Some (sym moved)

pub returns-in-EnPassant : goal.returns-in-EnPassant
returns-in-EnPassant c =
    let p = c.args.position.now in
    let m = c.args.mv.now in
    let moved : c.match-mv.board ≡ carried p m = elim c.match-mv.branch [ in-None w ↦ grind arith | in-Some w ↦ grind arith ] in
    let board = board_of_step p m EnPassant (sym c.in-EnPassant.is ∙ c.requires.kind.kind) c.requires.step in
    grind arith

pub returns-in-ShortCastling : goal.returns-in-ShortCastling
returns-in-ShortCastling c =
    let p = c.args.position.now in
    let m = c.args.mv.now in
    let moved : c.match-mv.board ≡ carried p m = elim c.match-mv.branch [ in-None w ↦ grind arith | in-Some w ↦ grind arith ] in
    let is = sym c.in-ShortCastling.is ∙ c.requires.kind.kind in
    let board = board_of_step p m ShortCastling is c.requires.step in
    let rook =
    rook_waits p m (short_right p.side p.rights) short_wing (omega arith) (omega arith) (obeys_if_step p m ShortCastling is ∙ c.requires.step) in
    grind arith

pub returns-in-LongCastling : goal.returns-in-LongCastling
returns-in-LongCastling c =
    let p = c.args.position.now in
    let m = c.args.mv.now in
    let moved : c.match-mv.board ≡ carried p m = elim c.match-mv.branch [ in-None w ↦ grind arith | in-Some w ↦ grind arith ] in
    let is = sym c.in-LongCastling.is ∙ c.requires.kind.kind in
    let board = board_of_step p m LongCastling is c.requires.step in
    let rook =
    rook_waits p m (long_right p.side p.rights) long_wing (omega arith) (omega arith) (obeys_if_step p m LongCastling is ∙ c.requires.step) in
    grind arith
