-- At least as many pairs are tried to find a move as it has candidates.
use Rattle.chess_text.proofs.Words.{◌≡◌, ℕ, ◌≤◌, Bool, true, false, length, false≢true, refl, sym, ◌∙◌, ap, arith, Option, None, Some, Result, Ok, Err, IfOk, IsTrue, ok_or, if◌then◌else◌, and_parts, Kind, King, Piece, Move, Parts, Form, Played, SanFault, NoMove, at, has_piece, same_kind, is_legal, legal, candidates, is_castling, describes, with_next, with_next_position, move_of_form, form_pairs, has_rivals, kind_pairs, disambiguation_pairs, ◌||◌, common_steps, kinds_same, some_of}
use Rattle.chess_text.specs.San.{piece_pairs}
use Rattle.chess_text.proofs.forms.AgreeingAreFound.{said, the_one_move_is_read}
use Rattle.chess_text.proofs.forms.CastlingMoves.{castles_by_king}
use Rattle.chess_text.proofs.forms.MoverOfMove.{mover, mover_stands}

at_most : (b : Bool) (n : ℕ) → (if b then n else 0) ≤ n
at_most b n = grind arith

none_of_kind : (b : Bool) (n : ℕ) → b ≡ false → (if b then n else 0) ≤ 1
none_of_kind b n h = grind arith

either_wing : (short long is_long : Bool) → (if is_long then long else short) ≡ true → (short || long) ≡ true
either_wing short long is_long h = grind arith

king_has_none : (k : Kind) → has_rivals k ≡ true → k ≡ King → ⊥
king_has_none k h is = cc

module _ (p : Parts) (m : Move) where
  -- by the kind of the piece that moves
  of_kind : (k : Kind) (cell : Option Piece) → has_piece p.side k cell ≡ true → piece_pairs cell p m ≡ kind_pairs k p m
  of_kind k None h = cc
  of_kind k (Some x) h = ap (λ l. kind_pairs l p m) (sym (kinds_same k x.kind (and_parts _ (same_kind k x.kind) h).1))

  of_castling : is_legal p m ≡ true → is_castling p m ≡ true → (cell : Option Piece) → at p.board m.from ≡ cell → piece_pairs cell p m ≤ 1
  of_castling allowed castles None e = absurd (mover_stands p m allowed e)
  of_castling allowed castles (Some x) e = by_rivals (has_rivals x.kind) refl where
    by_rivals : (b : Bool) → has_rivals x.kind ≡ b → piece_pairs (Some x) p m ≤ 1
    by_rivals false h = none_of_kind _ (length (candidates p x.kind m.to)) h
    by_rivals true h = absurd (false≢true (sym (castles_by_king p m x.kind (mover p m x allowed e) (king_has_none x.kind h)) ∙ castles))

  described : (f : Form) → is_legal p m ≡ true → describes p f m ≡ true → disambiguation_pairs p m ≤ form_pairs p f
  described f allowed h = grind (arith, common_steps, said, of_kind, at_most, length, of_castling, either_wing)

pub found_candidates : (p : Parts) (f : Form) (r : Result Move SanFault) → IfOk r (λ m. IsTrue (is_legal p m))
    → with_next_position p r ≡ move_of_form p f → IfOk r (λ m. disambiguation_pairs p m ≤ form_pairs p f)
found_candidates p f (Err fault) allowed answer = tt
found_candidates p f (Ok m) allowed answer =
    let (q, leads) = some_of (legal p m) allowed in
    let x : Played = record { mv = m; next = q } in
    let found : move_of_form p f ≡ Ok x = sym answer ∙ ap (λ o. ok_or (with_next m o) NoMove) leads in
    described p m f allowed (and_parts (is_legal p m) (describes p f m) ((the_one_move_is_read p f x).0 found).0).1
