-- The name of a file gives its number back, and a log by names is one by numbers.
use Rattle.pgn_tool.proofs.Words.{◌≡◌, ℕ, ◌-◌, ◌^◌, ◌<◌, suc, List, [], ◌∷◌, ◌++◌, length, take, Option, common_steps, Result, refl, ap, ◌∙◌, length-append, arith, codes, decimal, map-append, SystemFault, added}
use Rattle.std.specs.Str.Parse.{digits_value}
use Rattle.std.proofs.lemmas.Fmt.{digits_value-decimal}
use Rattle.std.proofs.lemmas.Str.Parse.{numerals_by_value, tells_digits}
use lib.Seq.{take-append_seam, drop-nil}
use Rattle.pgn_tool.specs.FileName.{file_name, zeros_before}
use Rattle.pgn_tool.specs.FileSystem.{NameStep, making, number_of, numbered, step_at, step_of}

zeros_add_nothing : (count : ℕ) (digits : List ℕ) → digits_value 10 (zeros_before count ++ digits) ≡ digits_value 10 digits
zeros_add_nothing (suc (suc (suc (suc (suc (suc count)))))) digits = ap (λ l. digits_value 10 (l ++ digits)) (drop-nil count)
zeros_add_nothing _ digits = refl

without_ending : (name ending : List ℕ) → length ending ≡ 4 → take (length (name ++ ending) - 4) (name ++ ending) ≡ name
without_ending name ending four = grind (arith, common_steps, length-append, take-append_seam)

number_of-name : (number : ℕ) → number < 2 ^ 64 → number_of (file_name number) ≡ number
number_of-name number fits =
    let zeros = zeros_before (length (decimal number)) in
    ap (digits_value 10) (without_ending (zeros ++ decimal number) (codes ".pgn") refl)
    ∙ zeros_add_nothing (length (decimal number)) (decimal number) ∙ digits_value-decimal (numerals_by_value _ tells_digits) number fits

numbered-added : (log : Option (List NameStep)) (step : NameStep)
    → numbered (added log (step ∷ [])) ≡ added (numbered log) (step_of step ∷ [])
numbered-added log step = grind (arith, common_steps, map-append)

-- one more file, by its name and by its number
pub numbered-making : (old new : Option (List NameStep)) (name : List ℕ) (number : ℕ)
    (outcome : Result Unit SystemFault) → number < 2 ^ 64 → name ≡ file_name number
    → new ≡ added old (making name outcome ∷ []) → numbered new ≡ added (numbered old) (step_at number outcome ∷ [])
numbered-making old new name number outcome fits is more = grind (arith, common_steps, numbered-added, added, number_of-name)
