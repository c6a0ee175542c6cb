use Rattle.pgn_game.proofs.ReaderFitsInMemory.{games_fit_converter}
use Rattle.pgn_game.proofs.stepping.WholeInput.{none_read}
use Rattle.pgn_game.proofs.games.Games.new.Goals as goal

pub new-requires : goal.new-requires
new-requires g c = (search games_fit_converter, c.requires)

pub returns-clause-begins : goal.returns-clause-begins
returns-clause-begins g c = λ left. rw c.new-2.ensures (none_read c.new.ensures.stands c.new.ensures.not_finished)
