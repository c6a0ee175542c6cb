-- What each step of a builder does to what a parse reads.
use Rattle.pgn_arguments.proofs.Words.{common_steps, arith, ◌≡◌, ap, Bool, true, false, Some, and_parts, not-true, ℕ, List, App, app_of, rule_of, app_of_fields, on_top, Command}
use Rattle.std.specs.Borrow.{Bor}
use Rattle.clap.specs.declared.builder.texts.Texts.TheVariants.{One}
use Rattle.clap.specs.declared.builder.action.ArgAction.{ArgAction}
use Rattle.clap.specs.declared.builder.arg.Arg.{Arg}
use Rattle.clap.specs.declared.builder.command.Command.TheViews.{out-Command}

-- ---- arguments

pub rule_help : (a b : Arg) (text : Bor (List ℕ)) → b ≡ record a { help = Some text } → rule_of b ≡ rule_of a
rule_help a b text e = ap rule_of e

pub rule_value_name : (a b : Arg) (name : Bor (List ℕ)) → b ≡ record a { val_names = One name }
    → rule_of b ≡ record (rule_of a) { value_names = 1 }
rule_value_name a b name e = ap rule_of e

pub rule_long : (a b : Arg) (name : Bor (List ℕ)) → b ≡ record a { long = Some name }
    → rule_of b ≡ record (rule_of a) { long = Some name.now }
rule_long a b name e = ap rule_of e

pub rule_action : (a b : Arg) (action : ArgAction) → b ≡ record a { action = Some action }
    → rule_of b ≡ record (rule_of a) { action = Some action }
rule_action a b action e = ap rule_of e

-- ---- commands

pub app_about : (c d : Command) (text : Bor (List ℕ)) → out-Command d ≡ record (out-Command c) { about = Some text } → app_of d ≡ app_of c
app_about c d text e = ap app_of_fields e

pub app_after_help : (c d : Command) (text : Bor (List ℕ)) → out-Command d ≡ record (out-Command c) { after_help = Some text }
    → app_of d ≡ app_of c
app_after_help c d text e = ap app_of_fields e

pub app_version : (c d : Command) (text : Bor (List ℕ)) → out-Command d ≡ record (out-Command c) { version = Some text }
    → app_of d ≡ on_top (λ s. record s { has_version = true }) (app_of c)
app_version c d text e = ap app_of_fields e

pub app_help_subcommand : (c d : Command) (b : Bool) → out-Command d ≡ record (out-Command c) { disable_help_subcommand = b }
    → app_of d ≡ on_top (λ s. record s { disable_help_subcommand = b }) (app_of c)
app_help_subcommand c d b e = ap app_of_fields e

pub app_required : (c d : Command) (b : Bool) → out-Command d ≡ record (out-Command c) { subcommand_required = b }
    → app_of d ≡ on_top (λ s. record s { subcommand_required = b }) (app_of c)
app_required c d b e = ap app_of_fields e

-- ---- a plain command has no global argument

pub is_local : (c : Command) (a : App) → app_of c ≡ a → a.top.is_plain ≡ true → (out-Command c).has_globals ≡ false
is_local c a e plain = grind (arith, common_steps, not-true, and_parts)

pub rule_required : (a b : Arg) (flag : Bool) → b ≡ record a { required = flag } → rule_of b ≡ record (rule_of a) { required = flag }
rule_required a b flag e = ap rule_of e
