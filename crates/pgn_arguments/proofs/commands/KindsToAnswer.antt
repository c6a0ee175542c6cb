-- How an answer follows from the kinds that a parse may fail by.
use Rattle.pgn_arguments.proofs.Words.{common_steps, arith, ◌≡◌, Bool, true, true≢false, inl, inr, ◌⊎◌, [], ◌∷◌, or_left, or_right, Err, IfErr, Option, Result, List, list_any, IsAmong, Kinds, Text, ErrorKind, OutOfMemory, AnswersBy, AnswersError, LacksFile, Request, refusals, request_in}
use Rattle.pgn_arguments.specs.declared.arguments.Task.{Task}
use Rattle.pgn_arguments.specs.declared.arguments.ParseFault.{ParseFault}

passes_among : (test : ErrorKind → Bool) (kinds : Kinds) (kind : ErrorKind) → IsAmong kind kinds → test kind ≡ true
    → list_any test kinds ≡ true
passes_among test [] kind among passes = absurd among
passes_among test (k ∷ ks) kind (inl same) passes = grind (arith, common_steps, or_left)
passes_among test (k ∷ ks) kind (inr rest) passes = or_right (test k) _ (passes_among test ks kind rest passes)

pub answers_by : (words : List Text) (kind : ErrorKind) (fault : ParseFault) → (kind ≡ OutOfMemory) ⊎ IsAmong kind (refusals words)
    → AnswersError kind fault → AnswersBy words (Err fault)
answers_by words kind fault h1 h2 = grind (arith, common_steps, true≢false, passes_among)

-- the same where `clap` rejects nothing
pub answers_request : (words : List Text) (request : Option Request) (result : Result Task ParseFault) → refusals words ≡ []
    → request_in words ≡ request → IfErr result (LacksFile request) → AnswersBy words result
answers_request words request result h1 h2 h3 = grind (arith, common_steps)
