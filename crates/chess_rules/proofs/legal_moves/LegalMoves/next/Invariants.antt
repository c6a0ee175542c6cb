use Rattle.chess_rules.proofs.Words.{tries_left, ◌≡◌, length}
use Rattle.chess_rules.proofs.listing.LegalAmongTries.{AreLeft}
use Rattle.chess_rules.proofs.legal_moves.LegalMoves.next.Given as goal

abbrev pub invariant-loop-mv : goal.invariant-loop-mv
invariant-loop-mv l =
    (l.self-inside.position.now ≡ l.position) × AreLeft l.position l.fn.self l.fn.probes l.probes (tries_left l.position l.self-inside.tries)

abbrev pub decreases-loop-mv : goal.decreases-loop-mv
decreases-loop-mv l = length (tries_left l.position l.self-inside.tries)
