use Rattle.pgn_game.proofs.Words.{sym, subst, CountsMissingAs, rules}
use Rattle.pgn_game.proofs.ReaderFitsInMemory.{fits_game}
use Rattle.pgn_game.proofs.stepping.MissingCountsAs.{finished_alike, sound_counting, stands_counting}
use Rattle.pgn_game.proofs.converter.Converter.count_missing_result_as.Goals as goal

pub count_missing_result_as-requires : goal.count_missing_result_as-requires
count_missing_result_as-requires g c = search fits_game

pub returns-clause-only_profile : goal.returns-clause-only_profile
returns-clause-only_profile g c = search (rules, finished_alike)

pub returns-clause-stands : goal.returns-clause-stands
returns-clause-stands g c =
    subst (CountsMissingAs c.args.marker c.args.self.now) (sym (returns-clause-only_profile g c)) (stands_counting c.args.marker c.args.self.now)

pub invariant_of-self : goal.invariant_of-self
invariant_of-self g c =
    let old = c.self.inside in
    rw c.count_missing_result_as.ensures
    (sound_counting c.args.marker old.lexer old.game old.games old.has_finished_game old.is_finished old.fault c.self.invariant)
