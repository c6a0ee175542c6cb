use Rattle.pgn_c.proofs.convert_into.Given as goal

abbrev pub ghosts-fill : goal.ghosts-fill
ghosts-fill a = record { name = a.buffer.ghost_name; bytes = a.buffer.now }
