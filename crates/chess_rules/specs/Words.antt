-- **Bookkeeping**: the four words of 64 bits in which the code stores a board.
-- Place i of a word is its bit i, that of the square with index i. No rule of play rests on it.
use Rattle.std.specs.Prelude.{◌≡◌, ◌<◌, ℕ, ◌+◌, ◌*◌, ◌^◌, Bool, true, false, ◌||◌, List, [], ◌∷◌, filter, map, Option, None, Some, length, ◌==◌, if◌then◌else◌}
use Rattle.std.specs.Int.{bit_at}
use Rattle.std.specs.List.{list_any, range_with_len}
use Rattle.chess_rules.specs.declared.piece.Colour.{Colour}
use Rattle.chess_rules.specs.declared.piece.Colour.TheVariants.{White, Black}
use Rattle.chess_rules.specs.declared.piece.Kind.TheVariants.{King, Queen, Rook, Bishop, Knight, Pawn}
use Rattle.chess_rules.specs.declared.piece.Piece.{Piece}
use Rattle.chess_rules.specs.declared.board.Board.TheInside.{Inside}
use Rattle.chess_rules.specs.Square.{Square, squares}
use Rattle.chess_rules.specs.Board.{cell_of, has_colour, kind_number, same_colour, some_piece}
use Rattle.chess_rules.specs.Reach.{has_kind, is_near, may_attack, square_at}

-- bit i of the word is set: as a set, the word has place i
unfoldable pub has : ℕ → ℕ → Bool
has word i = bit_at word i == 1

-- Three words tell the kinds apart. A rook is in `straight`, a bishop in `diagonal`, a queen in
-- both. What does not slide is in `near`: a pawn there alone, a knight in `straight` too, a king in
-- `diagonal` too. The fourth word, `black`, has the black pieces.

abbrev pub colour_of : Bool → Colour
colour_of true = Black
colour_of false = White

-- what is on a square, by its bits in `straight`, `diagonal`, `near` and `black`
abbrev pub coded : Bool → Bool → Bool → Bool → Option Piece
coded false false false black = None
coded true false false black = some_piece (colour_of black) Rook
coded false true false black = some_piece (colour_of black) Bishop
coded true true false black = some_piece (colour_of black) Queen
coded false false true black = some_piece (colour_of black) Pawn
coded true false true black = some_piece (colour_of black) Knight
coded false true true black = some_piece (colour_of black) King
coded true true true black = some_piece (colour_of black) King

-- The bits of what is on a square, in `straight` and in `diagonal`. Its bit in `near` is `is_near`,
-- and in `black` it is `has_colour Black`.
abbrev pub straight_of : Option Piece → Bool
straight_of cell = has_kind Queen cell || (has_kind Rook cell || has_kind Knight cell)

abbrev pub diagonal_of : Option Piece → Bool
diagonal_of cell = has_kind King cell || (has_kind Queen cell || has_kind Bishop cell)

-- The words and the cells.

-- what the words have at place i, and at all 64 places
abbrev pub cell_in : Inside → ℕ → Option Piece
cell_in w i = coded (has w.straight i) (has w.diagonal i) (has w.near i) (has w.black i)

unfoldable pub cells : Inside → List (Option Piece)
cells w = map (cell_in w) (range_with_len 0 64)

-- the word that has place i exactly if element i of the list passes the test
unfoldable pub word : {X : Type 0} → (X → Bool) → List X → ℕ
word test [] = 0
word test (x ∷ xs) = (if test x then 1 else 0) + 2 * word test xs

abbrev pub words : List (Option Piece) → Inside
words b = record { straight = word straight_of b; diagonal = word diagonal_of b; near = word is_near b; black = word (has_colour Black) b }

-- A rank in four lanes of eight bits.

-- the lanes of eight cells or fewer, from file a on
unfoldable pub lanes : List (Option Piece) → ℕ
lanes b = word straight_of b + 256 * word diagonal_of b + 65536 * word is_near b + 16777216 * word (has_colour Black) b

-- the lanes with this content on file a alone
abbrev pub lanes_of : Option Piece → ℕ
lanes_of cell = lanes (cell ∷ [])

-- the lanes of some eight cells
pub record AreLanes (n : ℕ) : Type 0 where
  pub row : List (Option Piece)
  pub eight : length row ≡ 8
  pub value : n ≡ lanes row

-- the row of a content in the table of lanes
abbrev pub number_of : Option Piece → ℕ
number_of None = 12
number_of (Some x) = (if same_colour x.colour Black then 6 else 0) + kind_number x.kind

-- the words are those of the cells: no square is in all of the first three, or in `black` alone
abbrev pub AreWords : Inside → Type 0
AreWords w = words (cells w) ≡ w

-- the word has exactly the places that pass the test
pub record Bits (word : ℕ) (test : ℕ → Bool) : Type 0 where
  pub of : (i : ℕ) → i < 64 → has word i ≡ test i

-- the word has exactly the places of the squares that pass the test
pub record Places (word : ℕ) (test : Square → Bool) : Type 0 where
  pub of : (i : ℕ) → i < 64 → has word i ≡ test (square_at i)

-- `new` has the place exactly if `value` is true, and all others as `old` has them
pub record Sets (old new : ℕ) (place : ℕ) (value : Bool) : Type 0 where
  pub inside : place < 64
  pub fits : new < 2 ^ 64
  pub of : (i : ℕ) → i < 64 → has new i ≡ (if i == place then value else has old i)

-- the first place that the word has
pub record IsLowest (word place : ℕ) : Type 0 where
  pub inside : place < 64
  pub here : has word place ≡ true
  pub none : (i : ℕ) → i < place → has word i ≡ false

-- the last place that the word has
pub record IsHighest (word place : ℕ) : Type 0 where
  pub inside : place < 64
  pub here : has word place ≡ true
  pub none : (i : ℕ) → place < i → i < 64 → has word i ≡ false

-- `result` has the places up to the first that `word` has, with this one, or all if `word` has none
pub record IsUpTo (word result : ℕ) : Type 0 where
  pub none : (i : ℕ) → i < 64 → has result i ≡ true → (j : ℕ) → j < i → has word j ≡ false
  pub here : (i : ℕ) → i < 64 → ((j : ℕ) → j < i → has word j ≡ false) → has result i ≡ true

-- `result` has the places from the last that `word` has, with this one, or all if `word` has none
pub record IsFrom (word result : ℕ) : Type 0 where
  pub none : (i : ℕ) → i < 64 → has result i ≡ true → (j : ℕ) → i < j → j < 64 → has word j ≡ false
  pub here : (i : ℕ) → i < 64 → ((j : ℕ) → i < j → j < 64 → has word j ≡ false) → has result i ≡ true

-- the squares of a set, in the order of their places
unfoldable pub members : ℕ → List Square
members word = filter (λ s. has word (cell_of s)) squares

-- each piece in the set is of one colour, and would attack t, were all squares between empty
pub record ArePossible (b : List (Option Piece)) (t : Square) (set : ℕ) : Type 0 where
  pub by : Colour
  pub which : Square → Bool
  pub places : Places set which
  pub attack : (s : Square) → which s ≡ true → may_attack b by t s ≡ true

-- some square is in the set
unfoldable pub has_any : ℕ → Bool
has_any set = list_any (λ s. has set (cell_of s)) squares

-- The first square of a set, if there is one.

pub record HasNone (set : ℕ) : Type 0 where
  pub of : (i : ℕ) → i < 64 → has set i ≡ false
  pub none : members set ≡ []

pub record IsFirst (set : ℕ) (s : Square) : Type 0 where
  pub file : s.file < 8
  pub rank : s.rank < 8
  pub place : IsLowest set (cell_of s)

abbrev pub FirstOf : Option Square → ℕ → Type 0
FirstOf None set = HasNone set
FirstOf (Some s) set = IsFirst set s

-- Taking the first square out of a set.

pub record TakesLowest (old new : ℕ) (s : Square) : Type 0 where
  pub file : s.file < 8
  pub rank : s.rank < 8
  pub here : has old (cell_of s) ≡ true
  pub rest : Sets old new (cell_of s) false
  pub next : members old ≡ s ∷ members new

pub record TakesNone (old new : ℕ) : Type 0 where
  pub none : HasNone old
  pub same : new ≡ old

abbrev pub Takes : Option Square → ℕ → ℕ → Type 0
Takes None old new = TakesNone old new
Takes (Some s) old new = TakesLowest old new s
