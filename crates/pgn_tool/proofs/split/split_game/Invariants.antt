use Rattle.pgn_tool.proofs.Words.{one_more}
use Rattle.pgn_tool.proofs.split.split_game.Given as goal

abbrev pub ghosts-write_to_file : goal.ghosts-write_to_file
ghosts-write_to_file g a = record { name = a.files.ghost_name; number = one_more a.games.now.converter.games; log = g.F.GameFiles.log a.files.now }
