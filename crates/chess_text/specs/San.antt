-- **Definition**: the text of a move as it is written (PGN 8.2.3). At the end: how many pairs of an
-- origin and a target are tried for legality to write it.
use Rattle.std.specs.Prelude.{◌≡◌, ℕ, ◌+◌, ◌≤◌, ◌<◌, Bool, true, false, ◌&&◌, ◌||◌, not, List, [], ◌∷◌, ◌++◌, Option, None, Some, length, ◌==◌, codes, if◌then◌else◌, filter}
use Rattle.std.specs.List.{list_any}
use Rattle.chess_rules.specs.declared.piece.Kind.{Kind}
use Rattle.chess_rules.specs.declared.piece.Kind.TheVariants.{King, Pawn}
use Rattle.chess_rules.specs.declared.piece.Piece.{Piece}
use Rattle.chess_rules.specs.declared.piece.Promotion.{Promotion}
use Rattle.chess_rules.specs.declared.position.Move.{Move}
use Rattle.chess_rules.specs.declared.position.Parts.{Parts}
use Rattle.chess_rules.specs.Square.{Square, squares, same_square}
use Rattle.chess_rules.specs.Board.{at, is_empty}
use Rattle.chess_rules.specs.Step.{own, is_en_passant, castles_short, castles_long}
use Rattle.chess_rules.specs.Legal.{legal, is_legal, is_check, is_mate, has_legal_move}
use Rattle.chess_rules.specs.Candidate.{candidates, pair_count}
use Rattle.chess_text.specs.Letter.{letter, file_letter, rank_digit, square_text}
use Rattle.chess_text.specs.Form.{promotion_letter}

-- the same move from another square
abbrev pub from_square : Move → Square → Move
from_square m s = record { from = s; to = m.to; promotion = m.promotion }

-- another square from which the same move is legal
abbrev pub is_rival : Parts → Move → Square → Bool
is_rival p m s = not (same_square s m.from) && is_legal p (from_square m s)

-- the other squares from which a piece of the kind has a legal move to the same square (8.2.3.4)
abbrev pub rivals : Parts → Kind → Move → List Square
rivals p k m = filter (λ s. own p k s && is_rival p m s) squares

abbrev pub on_file : Square → List Square → Bool
on_file s others = list_any (λ r. r.file == s.file) others

abbrev pub on_rank : Square → List Square → Bool
on_rank s others = list_any (λ r. r.rank == s.rank) others

-- Nothing, if there is no rival; else the file, if no rival is on it; else the rank, if no rival is
-- on it; else both. (8.2.3.4)
abbrev pub disambiguation_by : Square → Bool → Bool → Bool → List ℕ
disambiguation_by s any file rank =
    if not any then [] else if not file then file_letter s.file ∷ [] else if not rank then rank_digit s.rank ∷ [] else square_text s

abbrev pub disambiguation : Square → List Square → List ℕ
disambiguation s others = disambiguation_by s (list_any (λ r. true) others) (on_file s others) (on_rank s others)

-- a piece is taken (FIDE 3.1.1, 3.7.3)
abbrev pub is_capture : Parts → Move → Bool
is_capture p m = not (is_empty p.board m.to) || is_en_passant p m

abbrev pub capture_if : Bool → List ℕ
capture_if takes = if takes then codes "x" else []

abbrev pub capture_text : Parts → Move → List ℕ
capture_text p m = capture_if (is_capture p m)

-- the file from which a pawn takes, and the x (8.2.3.3)
abbrev pub pawn_capture : Bool → Move → List ℕ
pawn_capture takes m = if takes then file_letter m.from.file ∷ codes "x" else []

-- (8.2.3.3)
abbrev pub promotion_text : Option Promotion → List ℕ
promotion_text None = []
promotion_text (Some q) = codes "=" ++ promotion_letter q ∷ []

-- with the letter O (8.2.3.3)
abbrev pub castling_text : Bool → List ℕ
castling_text long = if long then codes "O-O-O" else codes "O-O"

-- castling has texts of its own (8.2.3.3)
abbrev pub king_text : Parts → Move → List ℕ
king_text p m =
    if castles_short p m then castling_text false
    else if castles_long p m then castling_text true
    else codes "K" ++ capture_text p m ++ square_text m.to

abbrev pub pawn_text : Parts → Move → List ℕ
pawn_text p m = pawn_capture (is_capture p m) m ++ square_text m.to ++ promotion_text m.promotion

-- of a queen, a rook, a bishop or a knight
abbrev pub disambiguated_text : Kind → Parts → Move → List ℕ
disambiguated_text k p m = (letter k ∷ []) ++ disambiguation m.from (rivals p k m) ++ capture_text p m ++ square_text m.to

abbrev pub kind_text : Kind → Parts → Move → List ℕ
kind_text King p m = king_text p m
kind_text Pawn p m = pawn_text p m
kind_text k p m = disambiguated_text k p m

-- the text without its mark, by the piece that moves; no legal move begins on an empty square
abbrev pub piece_text : Option Piece → Parts → Move → List ℕ
piece_text None p m = []
piece_text (Some x) p m = kind_text x.kind p m

abbrev pub unmarked : Parts → Move → List ℕ
unmarked p m = piece_text (at p.board m.from) p m

-- # on mate, else + on check (8.2.3.5)
abbrev pub mark_after : Parts → List ℕ
mark_after q = if is_mate q then codes "#" else if is_check q then codes "+" else []

abbrev pub mark : Option Parts → List ℕ
mark None = []
mark (Some q) = mark_after q

abbrev pub san : Parts → Move → List ℕ
san p m = unmarked p m ++ mark (legal p m)

-- How many pairs are tried to write it.

abbrev pub has_rivals : Kind → Bool
has_rivals King = false
has_rivals Pawn = false
has_rivals k = true

-- one for each candidate of a queen, a rook, a bishop or a knight
abbrev pub kind_pairs : Kind → Parts → Move → ℕ
kind_pairs k p m = if has_rivals k then length (candidates p k m.to) else 0

abbrev pub piece_pairs : Option Piece → Parts → Move → ℕ
piece_pairs None p m = 0
piece_pairs (Some x) p m = kind_pairs x.kind p m

abbrev pub disambiguation_pairs : Parts → Move → ℕ
disambiguation_pairs p m = piece_pairs (at p.board m.from) p m

-- How many pairs are tried for the mark: their count is n before and m after it, and q is the
-- position after the move. If the move does not give check, no pair is tried. If it does, as many
-- are tried as by `has_legal_move`: at most 1,024, and on mate one for each kind, target and
-- candidate.
pub record MarkPairs (q : Parts) (n m : ℕ) : Type 0 where
  pub rises : n ≤ m
  pub most : m ≤ n + 1024
  pub no_check : is_check q ≡ false → m ≡ n
  pub check : is_check q ≡ true → has_legal_move q ≡ true → n < m
  pub mate : is_check q ≡ true → has_legal_move q ≡ false → m ≡ n + pair_count q
