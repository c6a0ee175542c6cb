use Rattle.pgn_arguments.proofs.Words.{common_steps, arith, rules, ◌≡◌, ◌∙◌, ap₂, false, IfOk-weaker, rule_of, with_rule}
use Rattle.pgn_arguments.specs.CommandLine.{checked_rule, export_command, reduced_rule}
use Rattle.pgn_arguments.proofs.commands.BuilderSteps.{app_about, rule_action, rule_help, rule_long}
use Rattle.pgn_arguments.proofs.arguments.export_command.Goals as goal

pub returns : goal.returns
unfolding export_command reduced_rule checked_rule
returns c =
    let named = app_about _ _ _ c.about.ensures ∙ c.new-3.ensures.app in
    let reduced : rule_of c.help-reduced.result ≡ reduced_rule = grind (arith, common_steps, rule_help, rule_action, rule_long) in
    let checked : rule_of c.help-checked.result ≡ checked_rule = grind (arith, common_steps, rule_help, rule_action, rule_long) in
    let local : c.help-reduced.result.global ≡ false = search rules in
    let local_too : c.help-checked.result.global ≡ false = search rules in
    let first = c.in_ok-arg.ensures.shape local ∙ ap₂ with_rule named reduced in
    let second = c.in_ok-arg-2.ensures.shape local_too ∙ ap₂ with_rule first checked in
    IfOk-weaker c.arg-3.result _ _
    (λ made h. h.shape c.file_argument.ensures.local ∙ ap₂ with_rule second c.file_argument.ensures.rule) c.arg-3.ensures
