use Rattle.pgn_game.proofs.ReaderFitsInMemory.{reader_alike}
use Rattle.pgn_game.proofs.ReaderLemmas.{text_fits}
use Rattle.pgn_game.proofs.reader.Reader.plies_of_finished_games.Goals as goal

pub plies-requires : goal.plies-requires
plies-requires g c = search text_fits

pub is_between-requires : goal.is_between-requires
is_between-requires g c = search reader_alike
