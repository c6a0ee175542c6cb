use Rattle.pgn_game.proofs.Words.{ℕ, refl, Bool, true, false, List, Option, Ok, Converter, FillResult, MoreResult}
use Rattle.pgn_game.proofs.ReaderFitsInMemory.{fits_alike}
use Rattle.pgn_game.proofs.games.read_more.Goals as goal

-- bytes are read without the converter
filled : (c : Converter) (left_old left_new : Option (List ℕ)) (unused : List ℕ) (has_more : Bool)
    → FillResult left_old left_new unused (Ok has_more) → MoreResult left_old left_new c c unused (Ok has_more)
filled c left_old left_new unused true (some, consumed) = (refl, some, consumed)
filled c left_old left_new unused false (empty, consumed, at_end) = (refl, empty, consumed, at_end)

pub returns-in-Ok-clause-more : goal.returns-in-Ok-clause-more
returns-in-Ok-clause-more g c = filled _ _ _ _ _ c.in-Ok.ensures.fills

pub keep_failed_read-requires : goal.keep_failed_read-requires
keep_failed_read-requires g c = search fits_alike

pub returns-in-Ok-clause-fits : goal.returns-in-Ok-clause-fits
returns-in-Ok-clause-fits g c = c.fill.ensures.fits

pub returns-in-Ok-clause-counted : goal.returns-in-Ok-clause-counted
returns-in-Ok-clause-counted g c = c.in-Ok.ensures.counted

pub returns-in-Err-clause-more : goal.returns-in-Err-clause-more
returns-in-Err-clause-more g c = (c.keep_failed_read.ensures.fault, c.keep_failed_read.ensures.kept, c.in-Err.ensures.fills)

pub returns-in-Err-clause-fits : goal.returns-in-Err-clause-fits
returns-in-Err-clause-fits g c = c.fill.ensures.fits

pub returns-in-Err-clause-counted : goal.returns-in-Err-clause-counted
returns-in-Err-clause-counted g c = c.in-Err.ensures.counted
