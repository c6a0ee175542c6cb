-- A tag section is its lines one by one.
use Rattle.pgn_game.specs.steps.SectionPairs.{others}
use Rattle.pgn_game.proofs.Words.{◌≡◌, ℕ, Bool, true, false, cond, List, [], ◌∷◌, ◌++◌, take, drop, refl, ap, sym, ◌∙◌, append_assoc, arith, map, not, unwrap_or, codes, tag_line, Mode, Full, Reduced, Pair, value_of, has_pair, index_of, roster, other_pairs, with_set_up, tag_lines, tag_section, text_by, roster_line, other_line, rules}
use Rattle.pgn_game.proofs.pairs.ExportedValues.{set_up}
use Rattle.pgn_game.proofs.pairs.SectionByIndex.{others_about, others_with_fen, others_without_fen}

tag_lines-append : (ps qs : List Pair) → tag_lines (ps ++ qs) ≡ tag_lines ps ++ tag_lines qs
tag_lines-append [] qs = refl
tag_lines-append (p ∷ ps) qs = rw (tag_lines-append ps qs) (sym (append_assoc (tag_line p.name p.value) (tag_lines ps) (tag_lines qs)))

roster_lines : (ps ds : List Pair)
    → text_by (roster_line ps) ds ≡ tag_lines (map (λ d. record { name = d.name; value = unwrap_or (value_of ps d.name) d.value }) ds)
roster_lines ps [] = refl
roster_lines ps (d ∷ ds) = rw (roster_lines ps ds)

abbrev line_unless : Bool → Pair → List ℕ
line_unless b p = elim b [ true ↦ [] | false ↦ tag_line p.name p.value ]

kept_line : (p : Pair) (ps : List Pair) (b : Bool) → line_unless b p ++ tag_lines ps ≡ tag_lines (cond (not b) (p ∷ ps) ps)
kept_line p ps b = search rules

-- those of the pairs outside the roster
lines_of_others : (has_fen : Bool) (ps : List Pair) → text_by (other_line has_fen) ps ≡ tag_lines (others has_fen ps)
lines_of_others has_fen [] = refl
lines_of_others has_fen (p ∷ ps) = search (rules, kept_line, (lines_of_others has_fen ps))

-- the lines with SetUp's after so many pairs
abbrev pub lines_about : ℕ → List Pair → List ℕ
lines_about n ps = (text_by (other_line true) (take n ps) ++ tag_line (codes "SetUp") (codes "1")) ++ text_by (other_line true) (drop n ps)

lines_of_about : (n : ℕ) (ps : List Pair) → lines_about n ps ≡ tag_lines (others_about n ps)
lines_of_about n ps = search (rules, lines_of_others, append_assoc, tag_lines-append, set_up)

pub lines_without_fen : (ps : List Pair) → has_pair ps (codes "FEN") ≡ false
    → text_by (other_line false) ps ≡ tag_lines (other_pairs (with_set_up ps))
lines_without_fen ps none = lines_of_others false ps ∙ ap tag_lines (others_without_fen ps none)

pub lines_with_fen : (ps : List Pair) → has_pair ps (codes "FEN") ≡ true
    → lines_about (index_of (codes "SetUp") ps) ps ≡ tag_lines (other_pairs (with_set_up ps))
lines_with_fen ps some = lines_of_about (index_of (codes "SetUp") ps) ps ∙ ap tag_lines (others_with_fen ps some)

module _ (result : List ℕ) where
  pub reduced_section : (ps : List Pair) → text_by (roster_line ps) (roster result) ++ 10 ∷ [] ≡ tag_section Reduced result ps
  reduced_section ps = rw (roster_lines ps (roster result))

  pub full_section : (ps : List Pair)
      → (text_by (roster_line ps) (roster result) ++ tag_lines (other_pairs (with_set_up ps))) ++ 10 ∷ [] ≡ tag_section Full result ps
  full_section ps = grind (arith, tag_lines-append, roster_lines)

  pub roster_first : (mode : Mode) (ps : List Pair)
      → (rest : List ℕ) × (tag_section mode result ps ≡ text_by (roster_line ps) (roster result) ++ rest)
  roster_first Reduced ps = (10 ∷ [], sym (reduced_section ps))
  roster_first Full ps = (
    tag_lines (other_pairs (with_set_up ps)) ++ 10 ∷ [],
    sym (full_section ps) ∙ append_assoc (text_by (roster_line ps) (roster result)) (tag_lines (other_pairs (with_set_up ps))) (10 ∷ []),
  )
