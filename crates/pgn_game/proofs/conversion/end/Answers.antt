use Rattle.pgn_game.proofs.Words.{err_from_is_err_and}
use Rattle.pgn_game.proofs.ReaderFitsInMemory.{fits_alike}
use Rattle.pgn_game.proofs.stepping.WholeInput.{ended}
use Rattle.pgn_game.proofs.conversion.end.Goals as goal

pub returns-in_err-finish-clause-ends : goal.returns-in_err-finish-clause-ends
returns-in_err-finish-clause-ends g c =
    let e = err_from_is_err_and c.from_residual.result c.from_residual.ensures.1 in
    rw (e.1, e.2) (λ p u given stands. (c.in_err-finish.ensures.ends p u _ given stands).stops)

pub returns-clause-ends : goal.returns-clause-ends
returns-clause-ends g c =
    λ p u given stands.
    rw c.finish.ensures.silent.silent at
    (ended c.totals_of.result (c.in_ok-finish.ensures.ends p u _ given stands) c.totals_of.ensures.games c.totals_of.ensures.plies
    c.totals_of.ensures.probes c.totals_of.ensures.bound)

pub finish-requires : goal.finish-requires
finish-requires g c = (search fits_alike, c.requires.not_finished)

pub totals_of-requires : goal.totals_of-requires
totals_of-requires g c = (search fits_alike, c.in_ok-finish.ensures.fault)
