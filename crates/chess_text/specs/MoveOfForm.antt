-- **Definition**: which move a form means in a position (PGN 8.2.3).
use Rattle.std.specs.Prelude.{◌≡◌, ◌≢◌, ℕ, ◌+◌, ◌<◌, ◌≤◌, Bool, true, false, ◌&&◌, ◌||◌, not, List, [], ◌∷◌, Option, None, Some, Result, Ok, Err, OnOk, length, map, ◌==◌, if◌then◌else◌}
use Rattle.std.specs.List.{filter_map}
use Rattle.std.specs.Option.{ok_or}
use Rattle.chess_rules.specs.declared.piece.Colour.{Colour}
use Rattle.chess_rules.specs.declared.piece.Promotion.{Promotion}
use Rattle.chess_rules.specs.declared.position.Move.{Move}
use Rattle.chess_rules.specs.declared.position.Parts.{Parts}
use Rattle.chess_rules.specs.Square.{Square, square, squares, same_square}
use Rattle.chess_rules.specs.Board.{same_kind}
use Rattle.chess_rules.specs.Step.{own, kind_of, home_rank, castles_short, castles_long, short_wing, long_wing}
use Rattle.chess_rules.specs.Legal.{legal, is_legal}
use Rattle.chess_rules.specs.Candidate.{candidates}
use Rattle.chess_text.specs.declared.form.Form.{Form}
use Rattle.chess_text.specs.declared.form.Form.TheVariants.{Castle, Man}
use Rattle.chess_rules.specs.declared.position.Played.{Played}
use Rattle.chess_text.specs.declared.resolution.SanFault.{SanFault}
use Rattle.chess_text.specs.declared.resolution.SanFault.TheVariants.{NoMove, Ambiguous}

-- if the text gives a file or rank, it is that one (8.2.3.4)
abbrev pub hint_fits : Option ℕ → ℕ → Bool
hint_fits None n = true
hint_fits (Some k) n = k == n

abbrev pub hints_fit : Option ℕ → Option ℕ → Square → Bool
hints_fit file rank s = hint_fits file s.file && hint_fits rank s.rank

-- both name no promotion, or both the same (8.2.3.3)
abbrev pub same_promotion : Option Promotion → Option Promotion → Bool
same_promotion None None = true
same_promotion (Some x) (Some y) = same_kind (kind_of x) (kind_of y)
same_promotion _ _ = false

-- castling on either wing (FIDE 3.8.2)
abbrev pub is_castling : Parts → Move → Bool
is_castling p m = castles_short p m || castles_long p m

-- The form says this of the move. Only a form of castling names castling, and no form of the king
-- does.
abbrev pub describes : Parts → Form → Move → Bool
describes p (Castle long) m = if long then castles_long p m else castles_short p m
describes p (Man k file rank to promotion) m =
    (own p k m.from && hints_fit file rank m.from)
    && ((same_square m.to to && same_promotion m.promotion promotion) && not (is_castling p m))

-- the move is legal, and the form says this of it
abbrev pub agrees : Parts → Form → Move → Bool
agrees p f m = is_legal p m && describes p f m

-- the move with the position after it
abbrev pub with_next : Move → Option Parts → Option Played
with_next m None = None
with_next m (Some q) = Some (record { mv = m; next = q })

-- the same, if the move is legal and is described
abbrev pub played : Bool → Parts → Move → Option Played
played false p m = None
played true p m = with_next m (legal p m)

-- the king's move of castling: from the e file to the g file or, on the long wing, to the c file
-- (FIDE 3.8.2)
abbrev pub castling_move : Colour → Bool → Move
castling_move c long =
    record {
      from = square 4 (home_rank c);
      to = square (if long then long_wing.end else short_wing.end) (home_rank c);
      promotion = None;
    }

abbrev pub move_from : Square → Option Promotion → Square → Move
move_from to promotion s = record { from = s; to = to; promotion = promotion }

-- Where a form's moves are looked for: the one castling, or the moves from every square. The laws
-- on `move_of_form` speak of all moves, so no other agrees.
abbrev pub moves_to_try : Parts → Form → List Move
moves_to_try p (Castle long) = castling_move p.side long ∷ []
moves_to_try p (Man k file rank to promotion) = map (move_from to promotion) squares

-- the moves that agree, each with the position after it
unfoldable pub agreeing : Parts → Form → List Played
agreeing p f = filter_map (λ m. played (describes p f m) p m) (moves_to_try p f)

-- the only one
abbrev pub only : List Played → Result Played SanFault
only [] = Err NoMove
only (x ∷ []) = Ok x
only (x ∷ y ∷ more) = Err Ambiguous

-- the one move that agrees, or the fault
abbrev pub move_of_form : Parts → Form → Result Played SanFault
move_of_form p f = only (agreeing p f)

-- The answer of a function that makes no position: the same, with the position after the move.
abbrev pub with_next_position : Parts → Result Move SanFault → Result Played SanFault
with_next_position p (Ok m) = ok_or (with_next m (legal p m)) NoMove
with_next_position p (Err fault) = Err fault

-- How many pairs are tried to find it, at most so many if two moves agree; and how many to explain
-- the form.
abbrev pub form_pairs : Parts → Form → ℕ
form_pairs p (Castle long) = 1
form_pairs p (Man k file rank to promotion) = length (candidates p k to)

-- The count of tried pairs goes from old to new, where pairs could be tried: by each of them, or,
-- if two moves agree, by at least two.
pub record CountsPairs {A : Type 0} (pairs : ℕ) (answer : Result A SanFault) (old new : ℕ) : Type 0 where
  pub each : answer ≢ Err Ambiguous → new ≡ old + pairs
  pub two : answer ≡ Err Ambiguous → old + 2 ≤ new
  pub most : new ≤ old + pairs
  pub some : OnOk answer (old < new)
  pub bound : new ≤ old + 8

-- what a form of no castling says beside the kind, the target and the promotion
abbrev pub piece_move_fits : Parts → Option ℕ → Option ℕ → Move → Bool
piece_move_fits p file rank m = hints_fit file rank m.from && not (is_castling p m)
