use Rattle.pgn_arguments.proofs.Words.{rules, ◌≡◌, ap₂, Option, Some, option_map, string_bytes, String, Global, Bool, true, export_request}
use Rattle.pgn_arguments.proofs.arguments.export_task.Goals as goal

pub returns-in_ok-from_str-in-None-clause-fault : goal.returns-in_ok-from_str-in-None-clause-fault
returns-in_ok-from_str-in-None-clause-fault c =
    let given : c.args.is_checked ≡ true = search rules in (
      (
        c.args.reduced,
        ap₂ (λ (t : Bool) (f : Option (String Global)). Some (export_request t c.args.reduced (option_map string_bytes f))) given c.in-None.is,
      ),
      c.in_ok-from_str-in-None.ensures.ok,
    )
