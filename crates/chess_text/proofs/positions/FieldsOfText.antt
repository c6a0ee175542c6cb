-- The fields of a text, which stand between its spaces.
use Rattle.chess_text.proofs.Words.{◌≡◌, ℕ, Bool, true, not, List, [], ◌∷◌, ◌++◌, length, refl, arith, list_all, before_first, after_first, position_or_len, join_with_byte, is_space, field, ◌≤◌, ap, length-append, Option, decimal, length-decimal-le, Colour, Rights, Parts, Square, placement_text, side_text, rights_text, target_text, fen_text, common_steps, take-append_seam, drop-append-add, first_true, second_true}
use Rattle.chess_text.proofs.positions.BoardToText.{length-placement_text}

-- no byte of the text passes
abbrev pub lacks : (ℕ → Bool) → List ℕ → Bool
lacks p s = list_all (λ c. not (p c)) s

position_past : (p : ℕ → Bool) (t : List ℕ) (y : ℕ) (r : List ℕ)
    → lacks p t ≡ true → p y ≡ true → position_or_len p (t ++ y ∷ r) ≡ length t
position_past p [] y r h e = rw e refl
position_past p (x ∷ t) y r h e =
    let passed = first_true _ (lacks p t) h in
    let more = position_past p t y r (second_true (not (p x)) (lacks p t) h) e in
    rw passed (omega arith)

module _ (p : ℕ → Bool) (t : List ℕ) (y : ℕ) (r : List ℕ) where
  pub before_it : lacks p t ≡ true → p y ≡ true → before_first p (t ++ y ∷ r) ≡ t
  before_it h e = cc (position_past p t y r h e, take-append_seam t (y ∷ r))

  pub after_it : lacks p t ≡ true → p y ≡ true → after_first p (t ++ y ∷ r) ≡ r
  after_it h e = cc (position_past p t y r h e, drop-append-add t (y ∷ r) 1)

-- the six fields of six texts that are joined
pub record SixFields (s a b c d e f : List ℕ) : Type 0 where
  pub first : field 1 s ≡ a
  pub second : field 2 s ≡ b
  pub third : field 3 s ≡ c
  pub fourth : field 4 s ≡ d
  pub fifth : field 5 s ≡ e
  pub sixth : field 6 s ≡ f

pub six_fields : (a b c d e f : List ℕ) → lacks is_space a ≡ true
    → lacks is_space b ≡ true → lacks is_space c ≡ true → lacks is_space d ≡ true
    → lacks is_space e ≡ true → SixFields (join_with_byte 32 (a ∷ b ∷ c ∷ d ∷ e ∷ f ∷ [])) a b c d e f
six_fields a b c d e f ha hb hc hd he = grind (arith, common_steps, after_it, before_it)

-- The six fields of the canonical text, one after another, and how long they are.

pub length-side_text : (c : Colour) → length (side_text c) ≡ 1
length-side_text c = grind arith

pub length-target_text : (t : Option Square) → length (target_text t) ≤ 2
length-target_text t = grind arith

pub length-rights_text : (r : Rights) → length (rights_text r) ≤ 4
length-rights_text r = grind (arith, common_steps)

pub length-number : (n : ℕ) → n ≤ 99999 → length (decimal n) ≤ 5
length-number n h = length-decimal-le 5 n (omega arith) (omega arith) (omega arith)

-- what is written when all fields but the last are
pub record FiveWritten (p : Parts) (text : List ℕ) : Type 0 where
  pub whole : text ≡ placement_text p.board ++ 32 ∷ side_text p.side ++ 32
      ∷ rights_text p.rights ++ 32 ∷ target_text p.target ++ 32 ∷ decimal p.half

-- field after field
pub five_written : (p : Parts) (board side rights target half : List ℕ)
    → board ≡ placement_text p.board → side ≡ board ++ 32 ∷ side_text p.side → rights ≡ side ++ 32 ∷ rights_text p.rights
    → target ≡ rights ++ 32 ∷ target_text p.target → half ≡ target ++ 32 ∷ decimal p.half → FiveWritten p half
five_written p board side rights target half e f g h i =
    record { whole = cc }

pub length-five : (p : Parts) (text : List ℕ) → FiveWritten p text → p.half ≤ 99999 → length text ≤ 87
length-five p text five h =
    grind (arith, common_steps, length-append, length-placement_text, length-side_text, length-rights_text, length-target_text, length-number)

six_joined : (a b c d e f : List ℕ)
    → a ++ 32 ∷ b ++ 32 ∷ c ++ 32 ∷ d ++ 32 ∷ e ++ 32 ∷ f ≡ join_with_byte 32 (a ∷ b ∷ c ∷ d ∷ e ∷ f ∷ [])
six_joined a b c d e f = grind (arith, common_steps)

pub six_written : (p : Parts) (text : List ℕ) → FiveWritten p text → text ++ 32 ∷ decimal p.full ≡ fen_text p
six_written p text five = cc (six_joined _ _ _ _ _ _)

-- 71 bytes for the board, 1 for the side, 4 for the rights, 2 for the target, 5 for each number,
-- and five spaces
pub length-fen_text : (p : Parts) → p.half ≤ 99999 → p.full ≤ 99999 → length (fen_text p) ≤ 93
length-fen_text p half full =
    let five : FiveWritten p _ = record { whole = refl } in
    omega (arith, ap length (six_written p _ five), length-append {A = ℕ}, length-five p _ five half, length-number p.full full)
