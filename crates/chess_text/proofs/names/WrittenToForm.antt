-- The form that the text of a legal move spells.
use Rattle.chess_text.proofs.Words.{◌||◌, ◌≡◌, ℕ, inl, inr, Bool, true, false, not, [], ◌∷◌, ◌++◌, append-nil, refl, sym, ◌∙◌, ap, ap₂, ◌==◌, Option, None, Some, codes, if◌then◌else◌, list_all, list_any, false≢true, and_parts, and_from, or_cases, eq-eqb, Kind, King, Pawn, Piece, Promotion, Move, Parts, Square, on_board, at, has_colour, same_kind, own, castles_short, castles_long, short_right, long_right, short_wing, long_wing, is_legal, Form, Castle, Man, letter, file_letter, rank_digit, square_text, SpellsBare, Spells, is_among, letter_texts, hint_text, capture_texts, promotion_texts, is_mark, is_form, hints_fit, is_castling, describes, agrees, is_capture, capture_if, capture_text, pawn_capture, promotion_text, king_text, disambiguated_text, kind_text, mark, san, disambiguation_by, rivals, on_file, on_rank, has_rivals, false_from_ne_true, arith, nat_tests, rules, common_steps, same_square-refl}
use Rattle.chess_text.proofs.forms.CastlingMoves.{piece_goes, pawn_goes, pawn_passes, king_castles, stepped, castles_ends}
use Rattle.chess_text.proofs.forms.PieceForms.{same_promotion-refl}
use Rattle.chess_text.proofs.forms.MoverOfMove.{king_text_by, mover, mover_colour, other_kind}
use Rattle.chess_text.proofs.forms.AgreeingAreFound.{no_promotion}

-- the hints that tell apart
abbrev pub file_by : Square → Bool → Bool → Bool → Option ℕ
file_by s any file rank = if not any then None else if not file then Some s.file else if not rank then None else Some s.file

abbrev pub rank_by : Square → Bool → Bool → Bool → Option ℕ
rank_by s any file rank = if not any then None else if not file then None else Some s.rank

abbrev hinted : Kind → Move → Bool → Bool → Bool → Form
hinted k m any file rank = Man k (file_by m.from any file rank) (rank_by m.from any file rank) m.to None

-- the form of a move of a queen, a rook, a bishop or a knight
abbrev pub disambiguated_form : Kind → Parts → Move → Form
disambiguated_form k p m = hinted k m (list_any (λ r. true) (rivals p k m)) (on_file m.from (rivals p k m)) (on_rank m.from (rivals p k m))

abbrev pub king_form_by : Bool → Bool → Move → Form
king_form_by short long m = if short then Castle false else if long then Castle true else Man King None None m.to None

abbrev pub pawn_form_by : Bool → Move → Form
pawn_form_by takes m = Man Pawn (if takes then Some m.from.file else None) None m.to m.promotion

abbrev pub written : Kind → Parts → Move → Form
written King p m = king_form_by (castles_short p m) (castles_long p m) m
written Pawn p m = pawn_form_by (is_capture p m) m
written k p m = disambiguated_form k p m

-- It is spelled.

pub capture_fits : (b : Bool) → is_among (capture_if b) capture_texts ≡ true
capture_fits b = grind arith

hints_written : (l : ℕ) (s : Square) (any file rank : Bool) → (l ∷ []) ++ disambiguation_by s any file rank
    ≡ ((l ∷ []) ++ hint_text file_letter (file_by s any file rank)) ++ hint_text rank_digit (rank_by s any file rank)
hints_written l s any file rank = grind arith

pub own_letter : (k : Kind) → has_rivals k ≡ true → is_among (letter k ∷ []) (letter_texts k) ≡ true
own_letter k h = grind arith

disambiguated_spelled : (k : Kind) (p : Parts) (m : Move) → has_rivals k ≡ true
    → SpellsBare (disambiguated_text k p m) (disambiguated_form k p m)
disambiguated_spelled k p m h =
    record {
      letters = letter k ∷ [];
      capture = capture_text p m;
      promoted = [];
      joined = ap (λ s. (s ++ capture_text p m) ++ square_text m.to) (hints_written _ _ _ _ _) ∙ sym (append-nil _);
      letters_fit = own_letter k h;
      capture_fits = capture_fits _;
      promoted_fits = refl;
    }

king_spelled : (p : Parts) (m : Move) → SpellsBare (king_text p m) (king_form_by (castles_short p m) (castles_long p m) m)
king_spelled p m = by_wing _ _
  where
    by_wing : (a b : Bool) → SpellsBare (king_text_by a b p m) (king_form_by a b m)
    by_wing false false =
        record { letters = codes "K"; capture = capture_text p m; promoted = []; joined = sym (append-nil _); letters_fit = refl; capture_fits = capture_fits _; promoted_fits = refl }
    by_wing a b = refl

promotion_written : (q : Option Promotion) → is_among (promotion_text q) (promotion_texts q) ≡ true
promotion_written q = grind arith

pawn_spelled : (takes : Bool) (m : Move)
    → SpellsBare (pawn_capture takes m ++ square_text m.to ++ promotion_text m.promotion) (pawn_form_by takes m)
pawn_spelled true m = record { letters = []; capture = codes "x"; promoted = promotion_text _; joined = refl; letters_fit = refl; capture_fits = refl; promoted_fits = promotion_written m.promotion }
pawn_spelled false m = record { letters = []; capture = []; promoted = promotion_text _; joined = refl; letters_fit = refl; capture_fits = refl; promoted_fits = promotion_written m.promotion }

kind_spelled : (k : Kind) (p : Parts) (m : Move) → SpellsBare (kind_text k p m) (written k p m)
kind_spelled k p m = grind (arith, common_steps, king_spelled, pawn_spelled, disambiguated_spelled)

pub marks_alone : (o : Option Parts) → list_all is_mark (mark o) ≡ true
marks_alone None = refl
marks_alone (Some q) = grind (arith, common_steps)

-- the piece that moves
pub record Moved (p : Parts) (m : Move) : Type 0 where
  pub piece : Piece
  pub there : at p.board m.from ≡ Some piece
  pub stands : own p piece.kind m.from ≡ true

pub moved : (p : Parts) (m : Move) → is_legal p m ≡ true → Moved p m
moved p m h = by_cell _ refl (mover_colour p m h)
  where
    by_cell : (o : Option Piece) → at p.board m.from ≡ o → has_colour p.side o ≡ true → Moved p m
    by_cell None e g = cc
    by_cell (Some x) e g = record { piece = x; there = e; stands = mover p m x h e }

pub san_spelled : (p : Parts) (m : Move) (v : Moved p m) → Spells (san p m) (written v.piece.kind p m)
san_spelled p m v = grind (arith, common_steps, kind_spelled, marks_alone)

-- It is a form.

hinted_good : (k : Kind) (m : Move) (any file rank : Bool) → on_board m.from ≡ true
    → on_board m.to ≡ true → is_form (hinted k m any file rank) ≡ true
hinted_good k m any file rank h g = grind arith

king_good : (a b : Bool) (m : Move) → on_board m.to ≡ true → is_form (king_form_by a b m) ≡ true
king_good a b m h = grind arith

pawn_good : (b : Bool) (m : Move) → on_board m.from ≡ true → on_board m.to ≡ true → is_form (pawn_form_by b m) ≡ true
pawn_good b m h g = grind arith

pub good_form : (k : Kind) (p : Parts) (m : Move) → is_legal p m ≡ true → is_form (written k p m) ≡ true
good_form k p m h = search (rules, stepped, king_good, pawn_good, hinted_good)

-- The move agrees with it.

module _ (p : Parts) (m : Move) (k : Kind) where
  pub no_castling : own p k m.from ≡ true → same_kind King k ≡ false → is_castling p m ≡ false
  no_castling h apart = search (rules, false_from_ne_true, false≢true, and_parts)

  -- only a pawn is promoted
  pub unpromoted : is_legal p m ≡ true → own p k m.from ≡ true → same_kind k Pawn ≡ false → m.promotion ≡ None
  unpromoted h stands apart =
      no_promotion _
      (elim (stepped p m h).way [
        | piece_goes a b plain c ↦ plain
        | pawn_goes g way ↦ absurd (no_pawn g)
        | pawn_passes g way ↦ absurd (no_pawn g)
        | king_castles g ↦ elim (or_cases (castles_short p m) (castles_long p m) g) [
          | inl short ↦ (castles_ends p m (short_right p.side p.rights) short_wing short).2
          | inr long ↦ (castles_ends p m (long_right p.side p.rights) long_wing long).2
        ]
      ])
    where
      no_pawn : own p Pawn m.from ≡ true → ⊥
      no_pawn g = false≢true (sym (other_kind _ k Pawn _ stands apart) ∙ g)

  pub piece_move_described : (file rank : Option ℕ) (promotion : Option Promotion) → own p k m.from ≡ true → hints_fit file rank m.from ≡ true
      → m.promotion ≡ promotion → is_castling p m ≡ false → describes p (Man k file rank m.to promotion) m ≡ true
  piece_move_described file rank promotion stands hints becomes plain =
      rw (stands, hints, same_square-refl m.to, ← becomes, same_promotion-refl m.promotion, plain) refl

pub itself : (n : ℕ) → (n == n) ≡ true
itself n = eq-eqb n n refl

own_hints : (s : Square) (any file rank : Bool) → hints_fit (file_by s any file rank) (rank_by s any file rank) s ≡ true
own_hints s any file rank = grind (arith, nat_tests)

king_described : (p : Parts) (m : Move) → is_legal p m ≡ true → own p King m.from ≡ true
    → describes p (king_form_by (castles_short p m) (castles_long p m) m) m ≡ true
king_described p m h stands = by_wing _ _ refl refl
  where
    by_wing : (a b : Bool) → castles_short p m ≡ a → castles_long p m ≡ b → describes p (king_form_by a b m) m ≡ true
    by_wing true b e g = e
    by_wing false true e g = g
    by_wing false false e g = piece_move_described p m King None None None stands refl (unpromoted p m King h stands refl) (ap₂ ◌||◌ e g)

pawn_described : (p : Parts) (m : Move) (takes : Bool) → own p Pawn m.from ≡ true → describes p (pawn_form_by takes m) m ≡ true
pawn_described p m takes stands = search (rules, piece_move_described, and_from, itself, no_castling)

disambiguated_described : (p : Parts) (m : Move) (k : Kind) → is_legal p m ≡ true → own p k m.from ≡ true
    → same_kind k Pawn ≡ false → same_kind King k ≡ false → describes p (disambiguated_form k p m) m ≡ true
disambiguated_described p m k h stands a b =
    grind (arith, common_steps, piece_move_described, own_hints, unpromoted, no_castling)

pub written_agrees : (k : Kind) (p : Parts) (m : Move) → is_legal p m ≡ true → own p k m.from ≡ true → agrees p (written k p m) m ≡ true
written_agrees k p m h stands = search (rules, and_from, king_described, pawn_described, disambiguated_described)
