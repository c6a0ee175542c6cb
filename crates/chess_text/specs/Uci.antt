-- **Definition**: moves in UCI, the Universal Chess Interface (its protocol, "Move format"): the
-- text of a move, and the legal move that a text names. At the end: the laws of these texts.
use Rattle.std.specs.Prelude.{◌≡◌, ◌≢◌, ◌↔◌, List, [], ◌∷◌, ◌++◌, ℕ, Option, None, Some, Result, Ok, Err, find, bytes_eq, codes, IsTrue, IsFalse}
use Rattle.std.specs.Option.{ok_or}
use Rattle.chess_rules.specs.declared.piece.Promotion.{Promotion}
use Rattle.chess_rules.specs.declared.piece.Promotion.TheVariants.{Queen, Rook, Bishop, Knight}
use Rattle.chess_rules.specs.declared.position.Move.{Move}
use Rattle.chess_rules.specs.declared.position.Parts.{Parts}
use Rattle.chess_rules.specs.Square.{Square, squares}
use Rattle.chess_rules.specs.Step.{is_on_board}
use Rattle.chess_rules.specs.Legal.{every_promotion, legal, is_legal}
use Rattle.chess_rules.specs.declared.position.Played.{Played}
use Rattle.chess_text.specs.declared.uci.UciFault.{UciFault}
use Rattle.chess_text.specs.declared.uci.UciFault.TheVariants.{NotAMove, IllegalMove}
use Rattle.chess_text.specs.Letter.{square_text}
use Rattle.chess_text.specs.MoveOfForm.{with_next}

-- what a pawn becomes, as a small letter; nothing for every other move
abbrev pub uci_promotion : Option Promotion → List ℕ
uci_promotion None = []
uci_promotion (Some Queen) = codes "q"
uci_promotion (Some Rook) = codes "r"
uci_promotion (Some Bishop) = codes "b"
uci_promotion (Some Knight) = codes "n"

-- The text of a move: its origin, its target, its promotion. Castling is the move of the king.
abbrev pub uci : Move → List ℕ
uci m = square_text m.from ++ square_text m.to ++ uci_promotion m.promotion

-- The same read back.

-- the square with this text
abbrev pub square_named : ℕ → ℕ → Option Square
square_named a b = find (λ s. bytes_eq (square_text s) (a ∷ b ∷ [])) squares

-- the promotion with this text, or none
abbrev pub promotion_named : List ℕ → Option (Option Promotion)
promotion_named s = find (λ q. bytes_eq (uci_promotion q) s) every_promotion

abbrev pub move_if : Option Square → Option Square → Option (Option Promotion) → Option Move
move_if (Some s) (Some t) (Some q) = Some (record { from = s; to = t; promotion = q })
move_if s t q = None

-- The move with this text: two bytes name its origin, two its target, and the rest its promotion.
abbrev pub move_with_text : List ℕ → Option Move
move_with_text (a ∷ b ∷ c ∷ d ∷ s) = move_if (square_named a b) (square_named c d) (promotion_named s)
move_with_text s = None

-- the move with the position after it, if it is legal
abbrev pub if_legal : Parts → Option Move → Result Played UciFault
if_legal p None = Err NotAMove
if_legal p (Some m) = ok_or (with_next m (legal p m)) IllegalMove

-- the legal move that the text names, or the fault
abbrev pub move_of_uci : Parts → List ℕ → Result Played UciFault
move_of_uci p s = if_legal p (move_with_text s)

-- The laws, over all moves.

-- A text is read as the legal move whose text it is, with the position after it. The fault is
-- IllegalMove exactly if it is the text of a move that is not legal, and NotAMove exactly if it is
-- that of no move.
pub record UciIsExact : Type 0 where
  pub legal_move : (p : Parts) (s : List ℕ) (x : Played) → (move_of_uci p s ≡ Ok x) ↔ ((s ≡ uci x.mv) × (legal p x.mv ≡ Some x.next))
  pub illegal_move : (p : Parts) (s : List ℕ) → (move_of_uci p s ≡ Err IllegalMove) ↔ ((m : Move) × IsTrue (is_on_board m) × (s ≡ uci m) × IsFalse (is_legal p m))
  pub no_move : (p : Parts) (s : List ℕ) → (move_of_uci p s ≡ Err NotAMove) ↔ ((m : Move) → IsTrue (is_on_board m) → s ≢ uci m)

-- the text of a legal move is read as this move, with the position after it
abbrev pub WrittenUciIsRead : Type 0
WrittenUciIsRead = (p q : Parts) (m : Move) → legal p m ≡ Some q → move_of_uci p (uci m) ≡ Ok (record { mv = m; next = q })

-- two different legal moves of a position have different texts
abbrev pub UciTextsDiffer : Type 0
UciTextsDiffer = (p : Parts) (m n : Move) → IsTrue (is_legal p m) → IsTrue (is_legal p n) → m ≢ n → uci m ≢ uci n
