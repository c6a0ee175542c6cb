use Rattle.pgn_arguments.proofs.Words.{◌≡◌, ◌∙◌, ap, ap₂, refl, sym, Bool, List, Option, Some, codes, option_map, IfOk-weaker, Row, Text, first_of, found_of, rows_of, subcommand_name_of, subcommand_rows_of, ArgMatches, check, export_request, is_given, listing, request_from, splitting}
use Rattle.pgn_arguments.proofs.commands.SubcommandToRequest.{no_other, none_met, request_met}
use Rattle.pgn_arguments.proofs.arguments.task_of.Goals as goal

pub unreachable-requires : goal.unreachable-requires
unreachable-requires c = none_met c.args.matches.now c.in_default.ensures.name c.requires

pub unreachable-requires-in_default-name : goal.unreachable-requires-in_default-name
unreachable-requires-in_default-name c =
    let other = c.in_default-name in
    let met = request_met c.args.matches.now c.in-Some.name.now _ _ c.in-Some.ensures.name c.in-Some.ensures.rows refl in
    no_other c.in-Some.name.now (rows_of (found_of c.in-Some.inner.now)) other.not-export other.not-check other.not-list other.not-split (rw met at c.requires)

export_met : (m : ArgMatches) (name : Text) (rows : List Row) (twice reduced : Bool) (file : Option Text) → Some name ≡ subcommand_name_of m
    → Some rows ≡ option_map (λ p. p.1) (subcommand_rows_of m) → name ≡ codes "export" → twice ≡ is_given (codes "checked") rows
    → reduced ≡ is_given (codes "reduced") rows → file ≡ first_of (codes "file") rows
    → request_from (subcommand_rows_of m) ≡ Some (export_request twice reduced file)
export_met m name rows twice reduced file is_name is_rows is_export is_twice is_reduced is_file =
    request_met m name (codes "export") rows is_name is_rows is_export
    ∙ (rw (sym is_twice, sym is_reduced, sym is_file) refl)

pub returns-in-export-clause-task : goal.returns-in-export-clause-task
returns-in-export-clause-task c =
    let met = c.in-Some.ensures in
    let asked = export_met c.args.matches.now _ _ _ _ _ met.name met.rows c.in-export.is c.is_given.ensures c.is_given-in-export.ensures c.in_ok-file.ensures in
    IfOk-weaker c.export_task.result _ _ (λ task asks. asked ∙ ap (λ r. Some r) asks) c.export_task.ensures.task

pub returns-in-export-clause-fault : goal.returns-in-export-clause-fault
returns-in-export-clause-fault c =
    let met = c.in-Some.ensures in
    rw (export_met c.args.matches.now _ _ _ _ _ met.name met.rows c.in-export.is c.is_given.ensures c.is_given-in-export.ensures c.in_ok-file.ensures)
    c.export_task.ensures.fault

pub returns-in-check-clause-task : goal.returns-in-check-clause-task
returns-in-check-clause-task c =
    request_met c.args.matches.now _ _ _ c.in-Some.ensures.name c.in-Some.ensures.rows c.in-check.is ∙ ap (λ f. Some (check f)) (sym c.in_ok-file.ensures)

pub returns-in-list-clause-task : goal.returns-in-list-clause-task
returns-in-list-clause-task c =
    request_met c.args.matches.now _ _ _ c.in-Some.ensures.name c.in-Some.ensures.rows c.in-list.is ∙ ap (λ f. Some (listing f)) (sym c.in_ok-file.ensures)

pub returns-in_ok-dir_of-in-split-clause-task : goal.returns-in_ok-dir_of-in-split-clause-task
returns-in_ok-dir_of-in-split-clause-task c =
    request_met c.args.matches.now _ _ _ c.in-Some.ensures.name c.in-Some.ensures.rows c.in-split.is
    ∙ ap₂ (λ d f. Some (splitting d f)) (sym c.in_ok-dir_of-in-split.ensures) (sym c.in_ok-file.ensures)
