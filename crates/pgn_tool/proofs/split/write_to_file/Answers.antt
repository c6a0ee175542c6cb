use Rattle.pgn_tool.proofs.Words.{Bool, Device, FileStep, List, Option, added, append_assoc, ◌∙◌, ◌++◌, ◌≡◌, false, subst, seen, arith, common_steps}
use Rattle.pgn_tool.proofs.split.write_to_file.Goals as goal

-- the sink of games that are written, as it is
openly : (P : Device → Type 0) (silent : Bool) (d e : Device) → silent ≡ false → d ≡ e → P (seen silent d) → P e
openly P silent d e is same h = subst P same (subst (λ (b : Bool). P (seen b d)) is h)

-- steps added in two parts
in_two : (log mid after : Option (List FileStep)) (front steps : List FileStep) → mid ≡ added log front → after ≡ added mid steps
    → after ≡ added log (front ++ steps)
in_two log mid after front steps one two = grind (arith, common_steps, append_assoc)

pub returns-clause-splits : goal.returns-clause-splits
returns-clause-splits g c = grind (arith, common_steps, in_two, openly)

pub returns-clause-writes : goal.returns-clause-writes
returns-clause-writes g c = c.next-answer.ensures.silent.silent ∙ c.requires.writes
