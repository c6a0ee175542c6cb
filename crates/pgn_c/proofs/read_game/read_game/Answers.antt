use Rattle.pgn_c.proofs.Words.{length, arith, profile_counting, profile_taking}
use Rattle.pgn_game.specs.declared.marker.Marker.TheVariants.{Unknown}
use Rattle.pgn_c.proofs.TagSections.{in_place, reads_tags}
use Rattle.pgn_c.proofs.read_game.read_game.Goals as goal

pub returns : goal.returns
returns c =
    let read = c.read_silently-found in
    let put = c.put_tags in
    rw c.in-Some.is (record {
      no_mode = λ more. absurd (omega (arith, more, c.if-missing_result-gt1.false));
      bad_place = λ few away. absurd (in_place (length c.args.text.now) c.args.from (omega (arith, c.if-from-text.false)) (omega (arith, c.if-from-gt-LAST_PLACE.false)) away);
      counts_as_unknown = λ is within limit.
          reads_tags (profile_counting c.in-Some.mode Unknown) c.args.text.now c.args.from read.result read.new.converter c.args.buffer.now put.new.buffer
          put.result (rw is at (read.ensures.reads c.in-Some.mode c.converter_at-converter.ensures.begins)) read.ensures.not_full put.ensures.game put.ensures.no_game put.ensures.same;
      takes_the_marker = λ is within limit.
          reads_tags (profile_taking c.in-Some.mode) c.args.text.now c.args.from read.result read.new.converter c.args.buffer.now put.new.buffer
          put.result (rw is at (read.ensures.reads c.in-Some.mode c.converter_at-converter.ensures.begins)) read.ensures.not_full put.ensures.game put.ensures.no_game put.ensures.same;
    })
