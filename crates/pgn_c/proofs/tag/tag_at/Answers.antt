use Rattle.pgn_c.proofs.Words.{List, ℕ, sym, ◌∙◌, ap, subst, take_rest, PgnTag, TagResult, first_pair, arith, common_steps}
use Rattle.pgn_c.proofs.PairsOnLines.{not_found, found_there}
use Rattle.pgn_c.proofs.tag.tag_at.Goals as goal

pub returns-in-None : goal.returns-in-None
returns-in-None c =
    subst (λ (r : PgnTag). TagResult c.args.text.now c.args.at r) (sym c.no_tag-in-None.ensures)
    (not_found c.args.text.now c.args.at
    (sym (c.in-None.ensures.pair ∙ ap (λ (s : List ℕ). first_pair s) (take_rest c.args.text.now c.args.at))))

pub returns-in-Some : goal.returns-in-Some
returns-in-Some c = grind (arith, common_steps, found_there, take_rest)
