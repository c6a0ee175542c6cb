-- What the exit of a `?` returns.
use Rattle.pgn_game.proofs.Words.{◌≡◌, ap, Err, Ok, Result, IsErrAnd}

pub error_returned : {T E : Type 0} {y : E} (r : Result T E) → IsErrAnd r (λ x. x ≡ y) → r ≡ Err y
error_returned (Ok x) h = absurd h
error_returned (Err x) h = ap Err h
