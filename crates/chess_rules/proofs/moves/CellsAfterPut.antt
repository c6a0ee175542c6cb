-- What stands where after a piece is put on a square, and how many kings there are then.
use Rattle.chess_rules.proofs.Words.{Colour, King, Piece, Square, Board, at, put, cell_of, kings, has_piece, ◌≡◌, ◌≢◌, ℕ, ◌+◌, ◌<◌, ◌⊎◌, arith, length, length-set, set, cond, Option, None, get_or-set_same, common_steps}

pub record OnBoard (s : Square) : Type 0 where
  pub file : s.file < 8
  pub rank : s.rank < 8

pub same_or_not : (m n : ℕ) → (m ≡ n) ⊎ (m ≢ n)
same_or_not m n = grind arith

-- a put is seen on its square alone
pub at_put : (b : Board) (s u : Square) (x : Option Piece) → length b ≡ 64 → OnBoard s → OnBoard u
    → ((u ≡ s) × (at (put b s x) u ≡ x)) ⊎ ((u ≢ s) × (at (put b s x) u ≡ at b u))
at_put b s u x long on_s on_u = grind (arith, common_steps, same_or_not, set, get_or-set_same)

module _ (b : Board) (s : Square) (x : Option Piece) where
  pub at_put_here : length b ≡ 64 → OnBoard s → at (put b s x) s ≡ x
  at_put_here long on_s = grind (arith, common_steps)

  pub length-put : length (put b s x) ≡ length b
  length-put = length-set b (cell_of s) x

-- the board when a piece has gone from one square to another, where it is `cell`
abbrev pub moved : Board → Square → Square → Option Piece → Board
moved b from to cell = put (put b from None) to cell

pub data Moved (b : Board) (from to : Square) (cell : Option Piece) (u : Square) : Type 0 where
  on_target : u ≡ to → at (moved b from to cell) u ≡ cell → Moved b from to cell u
  on_origin : u ≡ from → at (moved b from to cell) u ≡ None → Moved b from to cell u
  on_other : u ≢ to → u ≢ from → at (moved b from to cell) u ≡ at b u → Moved b from to cell u

pub at_moved : (b : Board) (from to u : Square) (cell : Option Piece) → length b ≡ 64 → OnBoard from
    → OnBoard to → OnBoard u → Moved b from to cell u
at_moved b from to u cell long on_from on_to on = grind (arith, common_steps, at_put, length-put)

-- 1 for the colour's king, else 0
abbrev pub king_count : Colour → Option Piece → ℕ
king_count c cell = cond (has_piece c King cell) 1 0

module _ (c : Colour) (b : Board) (s : Square) (x : Option Piece) where
  pub kings-put : length b ≡ 64 → OnBoard s → kings c (put b s x) + king_count c (at b s) ≡ kings c b + king_count c x
  kings-put long on_s = grind (arith, common_steps)

  -- kings stay as many where as many are put as were there
  pub kings-put_alike : length b ≡ 64 → OnBoard s → king_count c (at b s) ≡ king_count c x → kings c (put b s x) ≡ kings c b
  kings-put_alike long on_s alike = grind (arith, kings-put)
