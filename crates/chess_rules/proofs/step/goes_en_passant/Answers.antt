use Rattle.chess_rules.proofs.Words.{StepKind, Plain, EnPassant, ◌≡◌, Bool, false, ◌&&◌, arith, if◌then◌else◌, common_steps}
use Rattle.chess_rules.proofs.moves.KindsOfSteps.{pawn_kind}
use Rattle.chess_rules.proofs.step.goes_en_passant.Goals as goal

no_target : (target leaves empty : Bool) (k : StepKind) → k ≡ (if (target && leaves) && empty then EnPassant else Plain) → target ≡ false → Plain ≡ k
no_target target leaves empty k h none = grind arith

pub returns-then-not-is_target-clause-plain : goal.returns-then-not-is_target-clause-plain
returns-then-not-is_target-clause-plain c h = grind (arith, common_steps, no_target, pawn_kind)
