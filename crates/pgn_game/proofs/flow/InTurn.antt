-- Calls in turn over one piece.
use Rattle.pgn_game.proofs.Words.{subst, ◌≡◌, ℕ, ◌+◌, ◌*◌, ◌<◌, ◌≤◌, Bool, false, List, length, drop, length-drop, Option, Some, Result, Ok, Standing, waiting, arith, Converter, Fault, CountsFault, le_refl, IsBeforeToken, rules, common_steps}
use Rattle.pgn_game.specs.steps.Flow.{IsNearer, ReadsIn, ReadsOn, Sooner, StepsIn}
use Rattle.pgn_game.proofs.flow.InPiece.{reads_none, still_ahead}
use Rattle.pgn_game.proofs.stepping.ReadsInText.{between}

-- a call that reads on, and one behind it
reads_then : (old mid new : Converter) (piece : List ℕ) (at : ℕ) (result : Result Bool Fault) (a b c : Option (List ℕ)) (x y z : ℕ)
    → ReadsOn old (Some piece) mid (Ok false) (between a b x y) → mid.lexer.count ≡ old.lexer.count + at
    → ReadsOn mid (Some (drop at piece)) new result (between b c y z) → ReadsOn old (Some piece) new result (between a c x z)
reads_then old mid new piece at result a b c x y z one count two start h1 tokens ahead here = search (rules, still_ahead)

counts_then : (r : Result Bool Fault) (a b c : Option (List ℕ)) (x y z : ℕ) → y ≡ x → CountsFault r (between b c y z) → CountsFault r (between a c x z)
counts_then r a b c x y z same counted = search rules

sooner_then : (old mid new : Standing) (at used : ℕ) (r : Result Bool Fault) → waiting mid ≤ 2 * at + waiting old → Sooner mid new used r → Sooner old new (at + used) r
sooner_then old mid new at used r one two = search rules

nearer_then : (old mid new : Standing) (at used : ℕ) (r : Result Bool Fault) → waiting mid ≤ 2 * at + waiting old → IsNearer mid new used r → IsNearer old new (at + used) r
nearer_then old mid new at used r one two = search rules

-- nothing is read
pub goes_none : (old : Converter) (piece : List ℕ) (o : Option (List ℕ)) (n : ℕ) → IsBeforeToken old → ReadsIn old piece old 0 (Ok false) (between o o n n)
goes_none old piece o n before = search (rules, reads_none, le_refl)

module _ {old mid new : Converter} {piece : List ℕ} {at used : ℕ} {r : Result Bool Fault} {a b c : Option (List ℕ)} {x y z : ℕ} (left : at < length piece)
    (one : ReadsIn old piece mid at (Ok false) (between a b x y)) where
  pub reads_in_then : ReadsIn mid (drop at piece) new used r (between b c y z) → ReadsIn old piece new (at + used) r (between a c x z)
  reads_in_then two = grind (arith, common_steps, reads_then, length-drop, sooner_then, counts_then)

  pub steps_then : StepsIn mid (drop at piece) new used r (between b c y z) → StepsIn old piece new (at + used) r (between a c x z)
  steps_then two = record { reads = reads_in_then two.reads; nearer = nearer_then old.lexer mid.lexer new.lexer at used r one.goes.sooner two.nearer }

-- the same where no byte was passed before the step
pub steps_at_once : {old mid new : Converter} {piece : List ℕ} {at used : ℕ} {r : Result Bool Fault} {a b c : Option (List ℕ)} {x y z : ℕ} → 0 < length piece → at ≡ 0
    → ReadsIn old piece mid at (Ok false) (between a b x y) → StepsIn mid piece new used r (between b c y z) → StepsIn old piece new used r (between a c x z)
steps_at_once {old} {mid} {new} {piece} {at} {used} {r} {a} {b} {c} {x} {y} {z} some none one two =
    let start = subst (λ (n : ℕ). ReadsIn old piece mid n (Ok false) (between a b x y)) none one in
    subst (λ (n : ℕ). StepsIn old piece new n r (between a c x z)) (omega arith) (steps_then {at = 0} some start two)
