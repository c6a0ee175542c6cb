use Rattle.pgn_game.proofs.Words.{sym, ap, subst, ◌∙◌, ReadsByMarker, writing_nothing}
use Rattle.pgn_game.proofs.stepping.MissingCountsAs.{stands_by_marker}
use Rattle.pgn_game.proofs.converter.Converter.take_marker_for_missing_result.Goals as goal

pub returns-clause-only_switch : goal.returns-clause-only_switch
returns-clause-only_switch g c = c.write_nothing.ensures.only_switch ∙ ap writing_nothing c.let_missing_result_take_marker.ensures

pub returns-clause-stands : goal.returns-clause-stands
returns-clause-stands g c =
    subst (ReadsByMarker c.args.self.now) (sym (returns-clause-only_switch g c)) (stands_by_marker c.args.self.now)
