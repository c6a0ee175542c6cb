use Rattle.pgn_game.proofs.ReaderLemmas.{may_have_whole, reader_alike}
use Rattle.pgn_game.proofs.game.ensure_section.Goals as goal

pub write_tag_section-written-requires : goal.write_tag_section-written-requires
write_tag_section-written-requires g c = (search reader_alike, may_have_whole c.args.reader.now.stage c.requires.stage)
