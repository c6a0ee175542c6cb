use Rattle.pgn_game.proofs.Words.{sym, subst, StillStands, rules}
use Rattle.pgn_game.proofs.ReaderFitsInMemory.{fits_game}
use Rattle.pgn_game.proofs.stepping.MissingCountsAs.{finished_silently, sound_silently, stands_silently}
use Rattle.pgn_game.proofs.converter.Converter.write_nothing.Goals as goal

pub write_nothing-requires : goal.write_nothing-requires
write_nothing-requires g c = search fits_game

pub returns-clause-only_switch : goal.returns-clause-only_switch
returns-clause-only_switch g c = search (rules, finished_silently)

pub returns-clause-stands : goal.returns-clause-stands
returns-clause-stands g c =
    subst (StillStands c.args.self.now) (sym (returns-clause-only_switch g c)) (stands_silently c.args.self.now)

pub invariant_of-self : goal.invariant_of-self
invariant_of-self g c =
    let old = c.self.inside in
    rw c.write_nothing.ensures
    (sound_silently old.lexer old.game old.games old.has_finished_game old.is_finished old.fault c.self.invariant)
