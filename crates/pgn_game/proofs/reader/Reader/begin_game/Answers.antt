use Rattle.pgn_game.proofs.Words.{◌≡◌, refl, first_position, initial, rules}
use Rattle.pgn_game.proofs.ReaderPartsFitInMemory.{tags_fit, text_fits}
use Rattle.pgn_game.proofs.reader.Reader.begin_game.Goals as goal

is_first : initial ≡ first_position
unfolding first_position
is_first = refl

pub returns : goal.returns
returns g c = search (rules, is_first)

pub plies-requires : goal.plies-requires
plies-requires g c = search text_fits

pub clear-requires : goal.clear-requires
clear-requires g c = search tags_fit

pub begin-requires : goal.begin-requires
begin-requires g c = search text_fits
