use Rattle.pgn_game.proofs.Words.{◌≡◌, ℕ, ◌+◌, ◌≤◌, Bor, IfSome, List, ◌∙◌, escaped, length, take, Option, None, Some, slice_get, unwrap_or, ap, err_from_is_err_and, take_all, Appends, AppendsFront, one_more, tag_line, missing_of, known_result, Pair, value_of, roster_line, text_by, roster, rules}
use Rattle.pgn_game.proofs.pairs.ExportedValues.{seven}
use Rattle.pgn_game.proofs.pairs.SectionByIndex.{default_or}
use Rattle.pgn_game.proofs.putting.WritesInTurn.{next_text, next_front, within_at}
use Rattle.pgn_game.proofs.section.write_roster.Goals as goal

next_line : (result : List ℕ) (held : List Pair) (i : ℕ) (name unknown value : List ℕ) (a b c : Option (List ℕ))
    → slice_get (roster result) i ≡ Some (record { name = name; value = unknown }) → value ≡ unwrap_or (value_of held name) unknown
    → Appends a b (text_by (roster_line held) (take i (roster result))) → Appends b c (tag_line name value)
    → Appends a c (text_by (roster_line held) (take (i + 1) (roster result)))
next_line result held i name unknown value a b c at is done next =
    let p = within_at (roster result) i (record { name = name; value = unknown }) at in
    next_text (roster_line held) (roster result) i (record { name = name; value = unknown }) a b c p.0 p.1 done (rw is at next)

front_of_line : (result : List ℕ) (held : List Pair) (i : ℕ) (name unknown value : List ℕ) (a b c : Option (List ℕ))
    → slice_get (roster result) i ≡ Some (record { name = name; value = unknown }) → value ≡ unwrap_or (value_of held name) unknown
    → Appends a b (text_by (roster_line held) (take i (roster result))) → AppendsFront b c (tag_line name value)
    → AppendsFront a c (text_by (roster_line held) (roster result))
front_of_line result held i name unknown value a b c at is done next =
    let p = within_at (roster result) i (record { name = name; value = unknown }) at in
    next_front (roster_line held) (roster result) i (record { name = name; value = unknown }) a b c p.0 p.1 done (rw is at next)

-- it fits on its line
fits_or : (name : List ℕ) (o : Option (Bor (List ℕ))) (value unknown : Bor (List ℕ)) → value ≡ unwrap_or o unknown
    → IfSome o (λ v. length name + length (escaped v.now) ≤ 249) → length name + length (escaped unknown.now) ≤ 249
    → length name + length (escaped value.now) ≤ 249
fits_or name None value unknown is fits short = rw is short
fits_or name (Some v) value unknown is fits short = rw is fits

pub write_tag-requires : goal.write_tag-requires
write_tag-requires g c = fits_or _ c.value_in.result _ _ c.unwrap_or-value.ensures c.value_in.ensures.fits c.roster_pair.ensures.fits

pub returns-in_err-write_tag : goal.returns-in_err-write_tag
returns-in_err-write_tag g c =
    rw (err_from_is_err_and c.from_residual.result c.from_residual.ensures.1).1
    (record {
      written = front_of_line (known_result (missing_of c.args.missing_result)) c.args.pairs.now c.loop-index.index
          c.roster_pair.result.0.now c.roster_pair.result.1.now c.unwrap_or-value.result.now _ _ _
          c.roster_pair.ensures.pair (default_or c.value_in.result _ _ _ c.unwrap_or-value.ensures c.value_in.ensures.value) c.loop-index.invariant.1 c.in_err-write_tag.ensures.text;
      counted = c.in_err-write_tag.ensures.counted ∙ ap one_more c.loop-index.invariant.0;
    })

pub loop-index-preserved : goal.loop-index-preserved
loop-index-preserved g c = search (rules, next_line, default_or)

pub returns : goal.returns
returns g c = search (rules, take_all, seven)
