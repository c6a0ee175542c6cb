use Rattle.pgn_game.proofs.Words.{games_of}
use Rattle.pgn_game.proofs.ReaderFitsInMemory.{games_fit_converter}
use Rattle.pgn_game.proofs.stepping.WholeInput.{read_none_silently}
use Rattle.pgn_game.proofs.games.Games.write_nothing.Goals as goal

pub write_nothing-requires : goal.write_nothing-requires
write_nothing-requires g c = search games_fit_converter

pub returns-clause-begins : goal.returns-clause-begins
returns-clause-begins g c =
    rw (← c.self.view_is, c.write_nothing.ensures.only_switch) (λ p left u have. read_none_silently p left u (games_of c.self.inside.converter c.self.inside.buffer) have)
