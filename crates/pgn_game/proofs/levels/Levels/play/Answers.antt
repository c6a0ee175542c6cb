use Rattle.pgn_game.proofs.Words.{◌≡◌, ◌+◌, ◌∙◌, Movetext, Plays, ap, arith, length, ne_eqb, ℕ, rules}
use Rattle.pgn_game.specs.steps.ItemResult.{counted_at}
use Rattle.pgn_game.proofs.levels.Levels.play.Given.{Over}
use Rattle.pgn_game.proofs.levels.Levels.play.Goals.{After-depth}
use Rattle.pgn_game.proofs.levels.Levels.play.Goals as goal

played : (g : Over) (c : After-depth g) (plies : ℕ)
    → plies ≡ c.args.self.now.plies + counted_at (length c.args.self.now.levels.around)
    → Plays c.args.mv.now c.args.self.now (record c.step.new.self { plies = plies })
played g c plies counted = search rules

-- the number of moves, and of levels around, was not changed by the step
same_plies : (g : Over) (c : After-depth g) → c.self.inside.plies ≡ c.args.self.now.plies
same_plies g c = ap (λ (t : Movetext). t.plies) c.self.view_is ∙ ap (λ (t : Movetext). t.plies) c.step.ensures

same_depth : (g : Over) (c : After-depth g) → c.depth.result ≡ length c.args.self.now.levels.around
same_depth g c = c.depth.ensures.value ∙ ap (λ (t : Movetext). length t.levels.around) c.step.ensures

pub returns-then-depth-eq0 : goal.returns-then-depth-eq0
returns-then-depth-eq0 g c = search (rules, After-depth, same_depth, same_plies, played)

pub returns-else-depth-eq0 : goal.returns-else-depth-eq0
returns-else-depth-eq0 g c = search (rules, After-depth, ne_eqb, same_depth, played)

pub overflow_add-self : goal.overflow_add-self
overflow_add-self g c =
    omega (arith, c.requires.few, ap (λ (t : Movetext). t.plies) c.step.ensures, ap (λ (t : Movetext). t.plies) c.self.view_is)
