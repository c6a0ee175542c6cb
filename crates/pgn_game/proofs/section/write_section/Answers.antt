use Rattle.pgn_game.proofs.Words.{◌∙◌, ap, err_from_is_err_and, Appends-trans, one_more, missing_of, known_result, rules}
use Rattle.pgn_game.proofs.putting.WritesInTurn.{counts_behind}
use Rattle.pgn_layout.proofs.OneWriteMore.{front_of_more, front_after, Writes-append}
use Rattle.pgn_game.proofs.pairs.SectionByLines.{reduced_section, full_section, roster_first}
use Rattle.pgn_game.proofs.section.write_section.Goals as goal

pub returns-in-Reduced : goal.returns-in-Reduced
returns-in-Reduced g c = search (rules, counts_behind, Writes-append, reduced_section)

pub returns-in_err-write_roster : goal.returns-in_err-write_roster
returns-in_err-write_roster g c =
    let p = err_from_is_err_and c.from_residual.result c.from_residual.ensures.1 in
    let first = roster_first (known_result (missing_of c.args.missing_result)) c.args.mode c.args.pairs.now in
    let roster = c.in_err-write_roster.ensures in
    rw p.1 (record { written = rw first.1 (front_of_more _ _ _ first.0 roster.written); counted = roster.counted })

pub returns-in_err-write_others-in-Full : goal.returns-in_err-write_others-in-Full
returns-in_err-write_others-in-Full g c =
    let p = err_from_is_err_and c.from_residual-in_err-write_others-in-Full.result c.from_residual-in_err-write_others-in-Full.ensures.1 in
    let roster = c.in_ok-write_roster.ensures in
    let others = c.in_err-write_others-in-Full.ensures in
    rw p.1
    (record {
      written = rw (c.in-Full.is, ← full_section (known_result (missing_of c.args.missing_result)) c.args.pairs.now)
          (front_of_more _ _ _ _ (front_after _ _ _ _ _ roster.written others.written));
      counted = others.counted ∙ ap one_more roster.counted;
    })

pub returns-in_ok-write_others-in-Full : goal.returns-in_ok-write_others-in-Full
returns-in_ok-write_others-in-Full g c =
    let roster = c.in_ok-write_roster.ensures in
    let others = c.in_ok-write_others-in-Full.ensures in
    record {
      written = rw (c.in-Full.is, ← full_section (known_result (missing_of c.args.missing_result)) c.args.pairs.now)
          (Writes-append _ _ _ _ _ _ (Appends-trans _ _ _ _ _ roster.written others.written) c.end_tags-in-Full.ensures.text);
      counted = counts_behind _ _ _ _ (others.counted ∙ roster.counted) c.end_tags-in-Full.ensures.counted;
    }
