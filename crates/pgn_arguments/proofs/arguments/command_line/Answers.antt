use Rattle.pgn_arguments.proofs.Words.{common_steps, arith, ◌≡◌, ◌∙◌, refl, ap, ap₂, true, IfOk-weaker, App, app_of, with_subcommand}
use Rattle.pgn_arguments.specs.CommandLine.{bare_program, check_command, command_line, export_command, list_command, split_command}
use Rattle.pgn_arguments.proofs.commands.BuilderSteps.{app_about, app_after_help, app_help_subcommand, app_required, app_version, is_local}
use Rattle.pgn_arguments.proofs.arguments.command_line.Goals as goal

export_is_plain : export_command.top.is_plain ≡ true
unfolding export_command
export_is_plain = refl

check_is_plain : check_command.top.is_plain ≡ true
unfolding check_command
check_is_plain = refl

list_is_plain : list_command.top.is_plain ≡ true
unfolding list_command
list_is_plain = refl

split_is_plain : split_command.top.is_plain ≡ true
unfolding split_command
split_is_plain = refl

pub returns : goal.returns
unfolding command_line bare_program
returns c =
    let bare : app_of c.subcommand_required.result ≡ bare_program =
    grind (arith, common_steps, app_version, app_after_help, app_about, app_help_subcommand, app_required) in
    let export_is = c.in_ok-export_command.ensures in
    let check_is = c.in_ok-check_command.ensures in
    let list_is = c.in_ok-list_command.ensures in
    let first =
    c.in_ok-subcommand.ensures.shape (is_local _ _ export_is export_is_plain) ∙ ap₂ with_subcommand bare (ap (λ (a : App). a.top) export_is) in
    let second =
    c.in_ok-subcommand-2.ensures.shape (is_local _ _ check_is check_is_plain) ∙ ap₂ with_subcommand first (ap (λ (a : App). a.top) check_is) in
    let third =
    c.in_ok-subcommand-3.ensures.shape (is_local _ _ list_is list_is_plain) ∙ ap₂ with_subcommand second (ap (λ (a : App). a.top) list_is) in
    let split_is = c.in_ok-split_command.ensures in
    IfOk-weaker c.subcommand-4.result _ _
    (λ made h. h.shape (is_local _ _ split_is split_is_plain) ∙ ap₂ with_subcommand third (ap (λ (a : App). a.top) split_is))
    c.subcommand-4.ensures
