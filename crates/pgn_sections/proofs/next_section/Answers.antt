use Rattle.pgn_sections.proofs.Words.{ℕ, List, ◌∙◌, ap₂, take_rest, BadGame, lines_of, place_in}
use Rattle.pgn_sections.proofs.LinesInPieces.{finds_all}
use Rattle.pgn_sections.proofs.next_section.Goals as goal

pub returns-clause-place : goal.returns-clause-place
returns-clause-place c =
    finds_all c.new.result c.next_section.new.self _ c.next_section.result c.next_section.ensures.place
    ∙ ap₂ (λ (g : BadGame) (t : List ℕ). place_in g (lines_of t)) c.new.ensures (take_rest c.args.text.now c.args.begin)
