use Rattle.chess_text.proofs.Words.{◌≡◌, ◌+◌, ◌≤◌, Bool, [], ◌++◌, length, sym, ◌∙◌, ap, ap₂, subst, arith, length-append, codes, if◌then◌else◌, is_check, is_mate, MarkPairs, mark, mark_after, common_steps}
use Rattle.chess_text.proofs.san.write_san_of.Goals as goal

pub returns-clause-text : goal.returns-clause-text
returns-clause-text c = c.push_mark.ensures.text ∙ ap₂ (λ s o. s ++ mark o) c.push_unmarked.ensures.text (sym c.requires.legal)

-- a mark is one byte, or none
mark_short : (mates checks : Bool) → length (if mates then codes "#" else if checks then codes "+" else []) ≤ 1
mark_short mates checks = grind arith

joined : (c : goal.After-push_mark)
    → length c.push_mark.new.text.items ≡ length c.push_unmarked.new.text.items + length (mark_after c.args.next.now)
joined c = ap length c.push_mark.ensures.text ∙ length-append _ _

pub returns-clause-some : goal.returns-clause-some
returns-clause-some c = omega (arith, joined c)

pub returns-clause-short : goal.returns-clause-short
returns-clause-short c = grind (arith, common_steps, joined, mark_short, is_mate, is_check)

pub returns-clause-pairs : goal.returns-clause-pairs
returns-clause-pairs c =
    subst (λ n. MarkPairs c.args.next.now n c.push_mark.new.probes) c.push_unmarked.ensures.pairs c.push_mark.ensures.pairs
