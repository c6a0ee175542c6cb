use Rattle.pgn_game.proofs.Words.{arith, ap, ◌∙◌, Converter}
use Rattle.pgn_game.proofs.ReaderFitsInMemory.{fits_game}
use Rattle.pgn_game.proofs.converter.Converter.plies_of_finished_games.Goals as goal

pub plies_of_finished_games-requires : goal.plies_of_finished_games-requires
plies_of_finished_games-requires g c =
    let none = ap (λ (s : Converter). s.fault) c.self.view_is ∙ c.requires in
    (search fits_game, omega (arith, c.self.invariant.few_plies none, c.self.invariant.count))
