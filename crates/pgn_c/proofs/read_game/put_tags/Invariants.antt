use Rattle.pgn_c.proofs.read_game.put_tags.Given as goal

abbrev pub ghosts-fill_tags : goal.ghosts-fill_tags
ghosts-fill_tags a = record { name = a.buffer.ghost_name; bytes = a.buffer.now }
