use Rattle.chess_rules.proofs.Words.{Parts, legal_among, tries_left, ◌∷◌, sym, ◌∙◌, ap}
use Rattle.chess_rules.proofs.listing.LegalAmongTries.{all_passed, legal_next, none_among, passed}
use Rattle.chess_rules.proofs.legal_moves.LegalMoves.next.Goals as goal

pub returns-in-Some-play_if_legal-clause-next : goal.returns-in-Some-play_if_legal-clause-next
returns-in-Some-play_if_legal-clause-next c =
    legal_next c.loop-mv.invariant.1 c.in-Some.mv (tries_left c.self.inside.position.now c.take_next.new.self) c.in-Some.ensures
    c.in-Some-play_if_legal.played c.in-Some-play_if_legal.ensures.played
    ∙ ap (λ (q : Parts). c.in-Some-play_if_legal.played ∷ legal_among q (tries_left q c.take_next.new.self)) (sym c.loop-mv.invariant.0)

pub loop-mv-preserved : goal.loop-mv-preserved
loop-mv-preserved c = (
  c.loop-mv.invariant.0,
  passed c.loop-mv.invariant.1 c.in-Some.mv (tries_left c.self.inside.position.now c.take_next.new.self) c.in-Some.ensures
      c.play_if_legal.new.probes c.in_default-play_if_legal.ensures.played c.in_default-play_if_legal.ensures.count,
)

pub returns-clause-next : goal.returns-clause-next
returns-clause-next c = (
  all_passed c.loop-mv.invariant.1 c.in_default.ensures.0,
  ap (λ (q : Parts). legal_among q (tries_left q c.take_next.new.self)) c.loop-mv.invariant.0
      ∙ (ap (legal_among c.self.inside.position.now) c.in_default.ensures.1 ∙ none_among c.self.inside.position.now),
)
