use Rattle.chess_rules.proofs.Words.{Parts, Places, Played, Tries, at, has_colour, is_position, legal, legal_among, legal_moves, tries_left, ◌≡◌, ◌≢◌, AllPairs, List, None, Some, length, map, true, sym, ◌∙◌, ap, subst, arith, Contains, ◌↔◌}
use Rattle.chess_rules.proofs.positions.RulesOfPosition.{sound_from_position}
use Rattle.chess_rules.proofs.listing.EachListedOnce.{listed_once}
use Rattle.chess_rules.proofs.listing.LegalIsListed.{legal_listed}
use Rattle.chess_rules.proofs.listing.MovesInList.{legal_exactly}
use Rattle.chess_rules.proofs.listing.TriesAreFew.{tries_few}
use Rattle.chess_rules.proofs.listing.TriesInOrder.{all_left}
use Rattle.chess_rules.proofs.legal_moves.LegalMoves.new.Goals as goal

-- the moves to come are all legal moves
listed : (p : Parts) (tries : Tries) → is_position p ≡ true → tries.pending ≡ None → tries.targets ≡ 0
    → Places tries.origins (λ s. has_colour p.side (at p.board s)) → legal_among p (tries_left p tries) ≡ legal_moves p
listed p tries position pending targets origins =
    ap (legal_among p) (all_left p tries pending targets origins) ∙ legal_listed p (sound_from_position p position)

pub invariant_of-result : goal.invariant_of-result
invariant_of-result c =
    let whole = all_left c.args.position.now c.new.result c.new.ensures.pending c.new.ensures.targets c.new.ensures.origins in
    omega (arith, tries_few c.args.position.now, ap length whole)

pub returns-clause-moves : goal.returns-clause-moves
returns-clause-moves c =
    listed c.args.position.now c.new.result c.recall_invariant.ensures c.new.ensures.pending c.new.ensures.targets c.new.ensures.origins

pub returns-clause-once : goal.returns-clause-once
returns-clause-once c =
    subst (λ (xs : List Played). AllPairs ◌≢◌ (map (λ x. x.mv) xs))
    (sym (listed c.args.position.now c.new.result c.recall_invariant.ensures c.new.ensures.pending c.new.ensures.targets c.new.ensures.origins))
    (listed_once c.args.position.now)

pub returns-clause-exactly : goal.returns-clause-exactly
returns-clause-exactly c mv next =
    subst (λ (xs : List Played). (legal c.args.position.now mv ≡ Some next) ↔ Contains xs (record { mv = mv; next = next }))
    (sym (listed c.args.position.now c.new.result c.recall_invariant.ensures c.new.ensures.pending c.new.ensures.targets c.new.ensures.origins))
    (legal_exactly c.args.position.now next mv)
