use Rattle.pgn_c.proofs.next_game.read_by_marker.Goals as goal

pub returns-clause-next : goal.returns-clause-next
returns-clause-next c = (c.read_silently.ensures.reads c.args.mode c.converter_at-converter.ensures.begins).0
