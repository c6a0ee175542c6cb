use Rattle.pgn_game.proofs.Words.{refl, err_from_is_err_and, arith}
use Rattle.pgn_game.proofs.ReaderFitsInMemory.{fits_alike}
use Rattle.pgn_game.proofs.stepping.WholeInput.{slice_stops, slice_ends}
use Rattle.pgn_game.proofs.conversion.convert_text.Goals as goal

pub feed_all-requires : goal.feed_all-requires
feed_all-requires g c = (search fits_alike, c.requires)

pub end-requires : goal.end-requires
end-requires g c = (search fits_alike, record { no_fault = c.in_ok-feed_all.ensures.goes.fault; not_finished = c.feed_all.ensures.goes.not_finished })

pub returns-in_err-feed_all-clause-converts : goal.returns-in_err-feed_all-clause-converts
returns-in_err-feed_all-clause-converts g c =
    let e = err_from_is_err_and c.from_residual.result c.from_residual.ensures.1 in
    λ p stands. rw (e.1, e.2) (slice_stops _ _ _ (c.in_err-feed_all.ensures.feeds p _ _ stands refl))

pub returns-clause-converts : goal.returns-clause-converts
returns-clause-converts g c =
    λ p stands.
    let fed = c.in_ok-feed_all.ensures.feeds p _ _ stands refl in
    slice_ends c.args.converter.now.reading.writing.is_silent _ c.end.result fed
    (omega (arith, fed.stands.lexer.count, c.in_ok-feed_all.ensures.goes.short))
    (rw c.feed_all.ensures.silent.silent at (c.end.ensures.ends p _ _ fed.stands))
