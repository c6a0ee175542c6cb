use Rattle.pgn_game.proofs.Words.{false, game_at, rules}
use Rattle.pgn_game.proofs.ReaderLemmas.{no_symbol_counted, plain_counted}
use Rattle.pgn_game.proofs.reader.Reader.count_move.Goals as goal

pub returns-in_default : goal.returns-in_default
returns-in_default g c = λ w. no_symbol_counted (game_at false w c.args.self.now) c.args.kind c.in_default.not-Symbol

pub returns-then-is_score_or_number : goal.returns-then-is_score_or_number
returns-then-is_score_or_number g c = search (rules, plain_counted)
