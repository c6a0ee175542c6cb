use Rattle.chess_text.proofs.Words.{◌≡◌, ◌+◌, take, list_any, same_square}
use Rattle.chess_text.proofs.forms.FormOriginKinds.{KindsSoFar}
use Rattle.chess_text.proofs.form_origins.origins_of_form.Given as goal

-- the kinds of the origins so far, and the pairs tried for them
abbrev pub invariant-loop-origin : goal.invariant-loop-origin
invariant-loop-origin l =
    record {
      kinds : KindsSoFar l.position l.form l.kinds (λ s. list_any (same_square s) (take l.origin-index l.origin-items));
      tried : l.probes ≡ l.fn.probes + l.origin-index;
    }
