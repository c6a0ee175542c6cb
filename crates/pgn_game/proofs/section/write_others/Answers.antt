use Rattle.pgn_game.proofs.Words.{◌≡◌, ℕ, true, List, ◌++◌, take, drop, refl, ap, sym, ◌∙◌, codes, err_from_is_err_and, Appends-trans, one_more, tag_line, index_of, Pair, has_pair, text_by, other_line, other_pairs, tag_lines, with_set_up, arith, rules}
use Rattle.pgn_game.proofs.putting.WritesInTurn.{counts_behind}
use Rattle.pgn_layout.proofs.OneWriteMore.{front_of_more, front_after, Writes-append}
use Rattle.pgn_game.proofs.pairs.SectionByLines.{lines_about, lines_with_fen, lines_without_fen}
use Rattle.pgn_game.proofs.section.write_others.Goals as goal

-- the pairs on both sides of SetUp's place
both_sides : (held pairs before after : List Pair) (n : ℕ) → pairs ≡ held
    → n ≡ index_of (codes "SetUp") pairs → before ≡ take n pairs → after ≡ drop n pairs → has_pair held (codes "FEN") ≡ true
    → (text_by (other_line true) before ++ tag_line (codes "SetUp") (codes "1")) ++ text_by (other_line true) after
    ≡ tag_lines (other_pairs (with_set_up held))
both_sides held pairs before after n is place front back some = grind (arith, lines_with_fen, lines_about)

pub returns-then-not-has_fen : goal.returns-then-not-has_fen
returns-then-not-has_fen g c = search (rules, lines_without_fen)

pub returns-in_err-write_pairs : goal.returns-in_err-write_pairs
returns-in_err-write_pairs g c =
    let some : has_pair c.args.pairs.now (codes "FEN") ≡ true = sym c.requires ∙ c.if-not-has_fen.false in
    let first = c.in_err-write_pairs.ensures in
    rw (err_from_is_err_and c.from_residual.result c.from_residual.ensures.1).1
    (record {
      written = rw (← both_sides c.args.pairs.now _ _ _ _ refl c.index_of.ensures.index c.split_at-before.ensures.front c.split_at-before.ensures.back some)
          (front_of_more _ _ _ _ (front_of_more _ _ _ _ first.written));
      counted = first.counted;
    })

pub returns-in_err-write_tag : goal.returns-in_err-write_tag
returns-in_err-write_tag g c =
    let some : has_pair c.args.pairs.now (codes "FEN") ≡ true = sym c.requires ∙ c.if-not-has_fen.false in
    let first = c.in_ok-write_pairs.ensures in
    rw (err_from_is_err_and c.from_residual-in_err-write_tag.result c.from_residual-in_err-write_tag.ensures.1).1
    (record {
      written = rw (← both_sides c.args.pairs.now _ _ _ _ refl c.index_of.ensures.index c.split_at-before.ensures.front c.split_at-before.ensures.back some)
          (front_of_more _ _ _ _ (front_after _ _ _ _ _ first.written c.in_err-write_tag.ensures.text));
      counted = c.in_err-write_tag.ensures.counted ∙ ap one_more first.counted;
    })

pub returns : goal.returns
returns g c =
    let some : has_pair c.args.pairs.now (codes "FEN") ≡ true = sym c.requires ∙ c.if-not-has_fen.false in
    let first = c.in_ok-write_pairs.ensures in
    let set_up = c.in_ok-write_tag.ensures in
    let others = c.write_pairs-3.ensures in
    record {
      written = rw (← both_sides c.args.pairs.now _ _ _ _ refl c.index_of.ensures.index c.split_at-before.ensures.front c.split_at-before.ensures.back some)
          (Writes-append _ _ _ _ _ _ (Appends-trans _ _ _ _ _ first.written set_up.text) others.written);
      counted = counts_behind _ _ _ _ (set_up.counted ∙ first.counted) others.counted;
    }
