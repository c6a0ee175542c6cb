use Rattle.chess_rules.proofs.Words.{castles, short_wing, long_wing, Plain, ShortCastling, LongCastling, ◌∙◌, sym, ap, rules}
use Rattle.chess_rules.proofs.moves.KindsOfSteps.{obeys_if_step, passing_rules}
use Rattle.chess_rules.proofs.step.is_step_of_kind.Goals as goal
use Rattle.chess_rules.proofs.step.is_step_of_kind.Goals.{then-promotion_fits, else-promotion_fits}

pub returns-in-Plain : goal.returns-in-Plain
returns-in-Plain c = c.is_plain_step.ensures ∙ obeys_if_step c.args.position.now c.args.mv.now Plain (sym c.in-Plain.is ∙ c.requires.kind)

pub returns-then-has : goal.returns-then-has
returns-then-has c = search (rules, passing_rules)

pub returns-else-has : goal.returns-else-has
returns-else-has c = search (rules, passing_rules)

pub returns-in-ShortCastling : goal.returns-in-ShortCastling
returns-in-ShortCastling c =
    c.castles.ensures ∙ (ap (λ right. castles c.args.position.now c.args.mv.now right short_wing) c.own_rights.ensures.short
    ∙ obeys_if_step c.args.position.now c.args.mv.now ShortCastling (sym c.in-ShortCastling.is ∙ c.requires.kind))

pub returns-in-LongCastling : goal.returns-in-LongCastling
returns-in-LongCastling c =
    c.castles-in-LongCastling.ensures
    ∙ (ap (λ right. castles c.args.position.now c.args.mv.now right long_wing) c.own_rights-in-LongCastling.ensures.long
    ∙ obeys_if_step c.args.position.now c.args.mv.now LongCastling (sym c.in-LongCastling.is ∙ c.requires.kind))
