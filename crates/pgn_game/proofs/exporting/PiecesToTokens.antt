-- Texts in pieces that a lexer reads back: tag lines, and the lines of movetext.
use Rattle.pgn_game.proofs.Words.{◌≡◌, ℕ, Bool, true, false, List, [], ◌∷◌, ◌++◌, refl, append_assoc, codes, decimal, IsTrue, All-append, AllByRecursion, or_cases, eqb-true, tag_line, escaped, is_space, IsSymbol, IsData, CommentsClose, Piece, text_of_pieces, kinds_in, IsPiece, IsEndedBy, AreEnded, Kind, Pair, tag_lines, SpellsPairs, no_pair, next_pair, pair, arith, rules, sym, ◌∙◌}
use Rattle.pgn_layout.specs.LineText.{is_gap, IsTextOf, no_token, next_token}
use Rattle.pgn_lexer.specs.Tokens as tokens
use Rattle.pgn_lexer.specs.Written as written
use Rattle.pgn_game.proofs.AllOfJoined.{all_front, all_behind}

-- a kind that has a text of its own, and is made as it has to be
abbrev pub IsWritable : Kind → Type 0
IsWritable k = IsPiece (written.token k)

-- The kinds of what is put on a line as one token: one kind, or a move number with its periods.
pub data Shown : List Kind → List ℕ → Type 0 where
  single : (k : Kind) → Shown (k ∷ []) (written.written k)
  white : (n : ℕ) → Shown (tokens.symbol (decimal n) ∷ tokens.period ∷ []) (decimal n ++ codes ".")
  black : (n : ℕ) → Shown (tokens.symbol (decimal n) ∷ tokens.period ∷ tokens.period ∷ tokens.period ∷ []) (decimal n ++ codes "...")

pub data AllShown : List Kind → List (List ℕ) → Type 0 where
  none_shown : AllShown [] []
  next_shown : (ks ls : List Kind) (t : List ℕ) (ts : List (List ℕ)) → Shown ks t → AllShown ls ts → AllShown (ks ++ ls) (t ∷ ts)

pub shown-append : {ks ls : List Kind} {ts us : List (List ℕ)} → AllShown ks ts → AllShown ls us → AllShown (ks ++ ls) (ts ++ us)
shown-append none_shown more = more
shown-append {ls} (next_shown ks js t ts first rest) more = rw (append_assoc ks js ls) (next_shown ks _ t _ first (shown-append rest more))

-- Pieces of a text, with these kinds. Whatever comes behind them, each is ended.
pub record PiecesOf (ks : List Kind) (s : List ℕ) : Type 0 where
  pub pieces : List Piece
  pub text : text_of_pieces pieces ≡ s
  pub kinds : kinds_in pieces ≡ ks
  pub sound : AllByRecursion IsPiece pieces
  pub ended : (more : List Piece) → AreEnded more → AreEnded (pieces ++ more)

text-append : (ps qs : List Piece) → text_of_pieces (ps ++ qs) ≡ text_of_pieces ps ++ text_of_pieces qs
text-append [] qs = refl
text-append (written.token k ∷ ps) qs = cc (text-append ps qs, append_assoc (written.written k) (text_of_pieces ps) (text_of_pieces qs))
text-append (written.space b ∷ ps) qs = cc (text-append ps qs)

kinds-append : (ps qs : List Piece) → kinds_in (ps ++ qs) ≡ kinds_in ps ++ kinds_in qs
kinds-append [] qs = refl
kinds-append (written.token k ∷ ps) qs = cc (kinds-append ps qs)
kinds-append (written.space b ∷ ps) qs = kinds-append ps qs

pub no_pieces : PiecesOf [] []
no_pieces = record { pieces = []; text = refl; kinds = refl; sound = tt; ended = λ more h. h }

pub line_feed : PiecesOf [] (10 ∷ [])
line_feed = record { pieces = written.space 10 ∷ []; text = refl; kinds = refl; sound = (refl, tt); ended = λ more h. h }

pub both_pieces : {ks ls : List Kind} {s t : List ℕ} → PiecesOf ks s → PiecesOf ls t → PiecesOf (ks ++ ls) (s ++ t)
both_pieces a b = search (rules, append_assoc, All-append, text-append, kinds-append)

-- Movetext on lines.
at_gap : (f : ℕ → Bool) (b : ℕ) {v : Bool} → f 32 ≡ v → f 10 ≡ v → is_gap b ≡ true → f b ≡ v
at_gap f b space line e = grind (arith, or_cases, eqb-true)

gap_is_space : (b : ℕ) → is_gap b ≡ true → IsTrue (is_space b)
gap_is_space b e = at_gap is_space b refl refl e

gap_ends : (b : ℕ) (s : List ℕ) (k : Kind) → is_gap b ≡ true → IsEndedBy (b ∷ s) k
gap_ends b s k e = search (rules, at_gap)

shown_pieces : {ks : List Kind} {t : List ℕ} (b : ℕ) → Shown ks t
    → AllByRecursion IsWritable ks → is_gap b ≡ true → PiecesOf ks (t ++ b ∷ [])
shown_pieces b (single k) h gap = record {
  pieces = written.token k ∷ written.space b ∷ [];
  text = refl;
  kinds = refl;
  sound = (h.0, (gap_is_space b gap, tt));
  ended = λ more rest. (gap_ends b (text_of_pieces more) k gap, rest);
}
shown_pieces b (white n) h gap = record {
  pieces = written.token _ ∷ written.token _ ∷ written.space b ∷ [];
  text = sym (append_assoc (decimal n) (codes ".") (b ∷ []));
  kinds = refl;
  sound = (h.0, (tt, (gap_is_space b gap, tt)));
  ended = λ more rest. (refl, (tt, rest));
}
shown_pieces b (black n) h gap = record {
  pieces = written.token _ ∷ written.token _ ∷ written.token _ ∷ written.token _ ∷ written.space b ∷ [];
  text = sym (append_assoc (decimal n) (codes "...") (b ∷ []));
  kinds = refl;
  sound = (h.0, (tt, (tt, (tt, (gap_is_space b gap, tt)))));
  ended = λ more rest. (refl, (tt, (tt, (tt, rest))));
}

pub at_text : {ks : List Kind} {s t : List ℕ} → s ≡ t → PiecesOf ks s → PiecesOf ks t
at_text e a = record { pieces = a.pieces; text = a.text ∙ e; kinds = a.kinds; sound = a.sound; ended = a.ended }

pub line_pieces : {ks : List Kind} {ts : List (List ℕ)} {s : List ℕ}
    → AllShown ks ts → AllByRecursion IsWritable ks → IsTextOf ts s → PiecesOf ks s
line_pieces none_shown h no_token = no_pieces
line_pieces (next_shown ks ls _ _ first rest) h (next_token t b ts s gap more) =
    at_text (append_assoc t _ s) (both_pieces (shown_pieces b first (all_front _ ks ls h) gap)
    (line_pieces rest (all_behind _ ks ls h) more))

-- Tag lines.
pub record IsSoundPair (q : Pair) : Type 0 where
  pub name : IsSymbol q.name
  pub value : IsData q.value

abbrev pub tag_kinds : List Pair → List Kind
tag_kinds [] = []
tag_kinds (q ∷ qs) = tokens.left_bracket ∷ tokens.symbol q.name ∷ tokens.str q.value ∷ tokens.right_bracket ∷ tag_kinds qs

same_escapes : (v : List ℕ) → written.escaped v ≡ escaped v
same_escapes v = refl

tag_text : (name value : List ℕ)
    → 91 ∷ (name ++ (32 ∷ ((34 ∷ (written.escaped value ++ 34 ∷ [])) ++ (93 ∷ 10 ∷ [])))) ≡ tag_line name value
tag_text name value = simp (same_escapes, append_assoc)

one_tag : (q : Pair) → IsSoundPair q
    → PiecesOf (tokens.left_bracket ∷ tokens.symbol q.name ∷ tokens.str q.value ∷ tokens.right_bracket ∷ []) (tag_line q.name q.value)
one_tag q h = record {
  pieces =
      written.token _ ∷ written.token _ ∷ written.space 32 ∷ written.token _
      ∷ written.token _ ∷ written.space 10 ∷ [];
  text = tag_text _ q.value;
  kinds = refl;
  sound = (tt, (h.name, (refl, (h.value, (tt, (refl, tt))))));
  ended = λ more rest. (tt, (refl, (tt, (tt, rest))));
}

pub tag_pieces : (qs : List Pair) → AllByRecursion IsSoundPair qs → PiecesOf (tag_kinds qs) (tag_lines qs)
tag_pieces [] h = no_pieces
tag_pieces (q ∷ qs) h = both_pieces (one_tag q h.0) (tag_pieces qs h.1)

pub tags_spell : (qs : List Pair) → SpellsPairs (tag_kinds qs) qs
tags_spell [] = no_pair
tags_spell (q ∷ qs) =
    next_pair (tokens.left_bracket ∷ tokens.symbol _ ∷ tokens.str _ ∷ tokens.right_bracket ∷ []) (tag_kinds qs) q qs
    (pair [] [] [] q.name _ refl refl refl) (tags_spell qs)

pub tags_close : (qs : List Pair) (more : List Kind) → CommentsClose false more → CommentsClose false (tag_kinds qs ++ more)
tags_close [] more h = h
tags_close (q ∷ qs) more h = tags_close qs more h
