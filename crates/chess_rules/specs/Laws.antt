-- **Definition**: what the laws say of steps, legal moves, candidates and positions.
use Rattle.std.specs.Prelude.{◌≡◌, ◌≤◌, Some, length, count_by, IsTrue}
use Rattle.chess_rules.specs.declared.piece.Colour.{Colour}
use Rattle.chess_rules.specs.declared.piece.Kind.{Kind}
use Rattle.chess_rules.specs.declared.piece.Kind.TheVariants.{King}
use Rattle.chess_rules.specs.declared.piece.Promotion.{Promotion}
use Rattle.chess_rules.specs.declared.position.Move.{Move}
use Rattle.chess_rules.specs.declared.position.Parts.{Parts}
use Rattle.chess_rules.specs.Square.{Square, on_board}
use Rattle.chess_rules.specs.Board.{at, has_piece}
use Rattle.chess_rules.specs.Position.{is_position}
use Rattle.chess_rules.specs.Step.{own, cases, step}
use Rattle.chess_rules.specs.Legal.{legal, is_legal}
use Rattle.chess_rules.specs.Candidate.{is_candidate, candidates}

-- no move is a step in two of the five ways
abbrev pub CasesApart : Type 0
CasesApart = (p : Parts) (m : Move) → count_by (λ holds. holds) (cases p m) ≤ 1

-- A legal move decides the position after it: `legal` is a function. By CasesApart, the order of
-- its cases does not matter.
abbrev pub OneAfter : Type 0
OneAfter = (p q r : Parts) (m : Move) → legal p m ≡ Some q → legal p m ≡ Some r → q ≡ r

-- a legal move leads to a position
abbrev pub LeavesPosition : Type 0
LeavesPosition = (p q : Parts) (m : Move) → IsTrue (is_position p) → legal p m ≡ Some q → IsTrue (is_position q)

-- the origin of each legal move is a candidate of its kind for its target
abbrev pub CandidatesComplete : Type 0
CandidatesComplete =
    (p q : Parts) (m : Move) (k : Kind)
    → legal p m ≡ Some q → IsTrue (own p k m.from) → IsTrue (is_candidate p k m.to m.from)

-- The origin of each step is such a candidate too, whether or not its king is safe afterwards. So
-- what is no candidate has no step.
abbrev pub StepsFromCandidates : Type 0
StepsFromCandidates =
    (p q : Parts) (m : Move) (k : Kind)
    → step p m ≡ Some q → IsTrue (own p k m.from) → IsTrue (is_candidate p k m.to m.from)

-- no square has more than 8 candidates of one kind
abbrev pub FewCandidates : Type 0
FewCandidates = (p : Parts) (k : Kind) (t : Square) → IsTrue (on_board t) → length (candidates p k t) ≤ 8

-- in a position a pair is legal with each promotion or with none
abbrev pub PromotionsAlike : Type 0
PromotionsAlike =
    (p : Parts) (s t : Square) (x y : Promotion)
    → IsTrue (is_position p) → is_legal p (record { from = s; to = t; promotion = Some x }) ≡ is_legal p (record { from = s; to = t; promotion = Some y })

-- in a position, each side has its king on one square
abbrev pub OneKing : Type 0
OneKing =
    (p : Parts) (c : Colour) (s t : Square)
    → IsTrue (is_position p) → IsTrue (on_board s) → IsTrue (on_board t) → IsTrue (has_piece c King (at p.board s)) → IsTrue (has_piece c King (at p.board t)) → s ≡ t
