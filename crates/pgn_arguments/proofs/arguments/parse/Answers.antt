use Rattle.pgn_arguments.proofs.Words.{◌∙◌, ap, sym, subst, map, IfOk-weaker, App, fault_of, is_simple_and_free, request_from}
use Rattle.clap.specs.Kinds.{HasKind}
use Rattle.pgn_arguments.specs.Requests.{refusals, request_in}
use Rattle.pgn_arguments.proofs.commands.KindsToAnswer.{answers_by, answers_request}
use Rattle.pgn_arguments.proofs.commands.SubcommandToRequest.{line_is_free, meets_known, rows_met}
use Rattle.pgn_arguments.proofs.arguments.parse.Goals as goal

pub task_of-requires : goal.task_of-requires
task_of-requires g c = meets_known c.in_ok-command.command _ c.in-Ok.matches c.in_ok-command.ensures c.in-Ok.ensures.matches c.in-Ok.ensures.parsed

pub returns-in-Ok-clause-task : goal.returns-in-Ok-clause-task
unfolding request_in
returns-in-Ok-clause-task g c =
    let met = ap request_from (sym (rows_met c.in_ok-command.command _ c.in-Ok.matches c.in_ok-command.ensures c.in-Ok.ensures.matches)) in
    IfOk-weaker c.task_of.result _ _ (λ task asks. met ∙ asks) c.task_of.ensures.task

pub returns-in-Ok-clause-refusal : goal.returns-in-Ok-clause-refusal
unfolding refusals request_in
returns-in-Ok-clause-refusal g c =
    let line = c.in_ok-command.ensures in
    let free =
    ap (λ (a : App). fault_of a (map g.S.AsStr.text c.args.words.now)) (sym line)
    ∙ c.in-Ok.ensures.kinds (ap is_simple_and_free line ∙ line_is_free) in
    let met = ap request_from (sym (rows_met c.in_ok-command.command _ c.in-Ok.matches c.in_ok-command.ensures c.in-Ok.ensures.matches)) in
    answers_request (map g.S.AsStr.text c.args.words.now) _ c.task_of.result free met c.task_of.ensures.fault

pub returns-in-Err-clause-refusal : goal.returns-in-Err-clause-refusal
unfolding refusals
returns-in-Err-clause-refusal g c =
    let line = c.in_ok-command.ensures in
    let words = map g.S.AsStr.text c.args.words.now in
    let has =
    subst (λ (a : App). HasKind (fault_of a words) c.in-Err.error) line (c.in-Err.ensures.kinds (ap is_simple_and_free line ∙ line_is_free)) in
    answers_by words _ c.fault_of.result has c.fault_of.ensures
