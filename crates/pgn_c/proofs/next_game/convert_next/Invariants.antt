use Rattle.pgn_c.proofs.next_game.convert_next.Given as goal

abbrev pub ghosts-fill_next : goal.ghosts-fill_next
ghosts-fill_next a = record { name = a.buffer.ghost_name; bytes = a.buffer.now }
