-- **Definition**: from which squares a form's move is a step (pseudo-legal move), and from which it
-- is legal (FIDE 3; PGN 8.2.3).
use Rattle.std.specs.Prelude.{◌≡◌, ◌↔◌, ℕ, ◌/◌, ◌%◌, ◌≤◌, Bool, true, false, ◌&&◌, List, map, count_by, Option, None, Ok, Err, is_some, if◌then◌else◌}
use Rattle.chess_rules.specs.declared.piece.Colour.{Colour}
use Rattle.chess_rules.specs.declared.piece.Kind.{Kind}
use Rattle.chess_rules.specs.declared.piece.Kind.TheVariants.{King}
use Rattle.chess_rules.specs.declared.piece.Promotion.{Promotion}
use Rattle.chess_rules.specs.declared.position.Move.{Move}
use Rattle.chess_rules.specs.declared.position.Parts.{Parts}
use Rattle.chess_rules.specs.Square.{Square, square, squares}
use Rattle.chess_rules.specs.Step.{step}
use Rattle.chess_rules.specs.Legal.{is_legal}
use Rattle.chess_text.specs.declared.form.Form.{Form}
use Rattle.chess_text.specs.declared.form.Form.TheVariants.{Castle, Man}
use Rattle.chess_text.specs.declared.form_origins.OriginKind.{OriginKind}
use Rattle.chess_text.specs.declared.form_origins.OriginKind.TheVariants.{NoStep, Unsafe, Legal}
use Rattle.chess_rules.specs.declared.position.Played.{Played}
use Rattle.chess_text.specs.declared.resolution.SanFault.TheVariants.{NoMove, Ambiguous}
use Rattle.chess_text.specs.MoveOfForm.{describes, castling_move, move_from, move_of_form}

-- the kind of the piece that moves; in castling it is the king
abbrev pub kind_of_form : Form → Kind
kind_of_form (Castle long) = King
kind_of_form (Man k file rank to promotion) = k

-- where the piece goes; in castling it is the king's target
abbrev pub target_of_form : Colour → Form → Square
target_of_form c (Castle long) = (castling_move c long).to
target_of_form c (Man k file rank to promotion) = to

abbrev pub promotion_of_form : Form → Option Promotion
promotion_of_form (Castle long) = None
promotion_of_form (Man k file rank to promotion) = promotion

-- the form's move from the square s, of this side
abbrev pub form_move : Colour → Form → Square → Move
form_move c f s = move_from (target_of_form c f) (promotion_of_form f) s

-- the move is a step, whether or not its king is safe, and the form says this of it
abbrev pub is_step_of_form : Parts → Form → Move → Bool
is_step_of_form p f m = is_some (step p m) && describes p f m

-- what the rules say of the form's move m
abbrev pub kind_of_move : Parts → Form → Move → OriginKind
kind_of_move p f m = if is_step_of_form p f m then (if is_legal p m then Legal else Unsafe) else NoStep

-- what they say of its move from the square s
abbrev pub origin_kind : Parts → Form → Square → OriginKind
origin_kind p f s = kind_of_move p f (form_move p.side f s)

-- of all squares, from a1, b1 to h8
unfoldable pub origins_of_form : Parts → Form → List OriginKind
origins_of_form p f = map (origin_kind p f) squares

-- the square with that place among all, rank by rank from a1
abbrev pub nth_square : ℕ → Square
nth_square n = square (n % 8) (n / 8)

abbrev pub is_legal_kind : OriginKind → Bool
is_legal_kind Legal = true
is_legal_kind _ = false

-- how many squares have a legal move of the form
abbrev pub count_legal : Parts → Form → ℕ
count_legal p f = count_by is_legal_kind (origins_of_form p f)

-- The form means a move exactly if one square has a legal move of it. With none no legal move
-- agrees, and with several the form is ambiguous.
pub record LegalOriginsDecide : Type 0 where
  pub one : (p : Parts) (f : Form) → ((x : Played) × (move_of_form p f ≡ Ok x)) ↔ (count_legal p f ≡ 1)
  pub none : (p : Parts) (f : Form) → (move_of_form p f ≡ Err NoMove) ↔ (count_legal p f ≡ 0)
  pub several : (p : Parts) (f : Form) → (move_of_form p f ≡ Err Ambiguous) ↔ (2 ≤ count_legal p f)
