use Rattle.pgn_game.proofs.Words.{◌≡◌, ◌∷◌, Movetext, Some, ap, sym, ◌∙◌, arith, rules, StoredLevel, level_of}
use Rattle.pgn_game.specs.declared.levels.Level.{Level as CodeLevel}
use Rattle.pgn_game.proofs.putting.CodeLevelsToStored.{depth-held, opened, opens, pushed}
use Rattle.pgn_game.proofs.levels.Levels.open.Goals as goal

pub push-requires : goal.push-requires
push-requires g c =
    let depth = depth-held c.self.invariant (ap (λ (t : Movetext). t.levels) c.self.view_is) in search rules

pub invariant_of-self : goal.invariant_of-self
invariant_of-self g c =
    let fits = c.self.invariant in record {
      current = c.at.result;
      around = fits.current ∷ fits.around;
      there = pushed fits c.push.new.self.items c.at.result c.push.ensures.items;
      room = omega (arith, c.push.ensures.len, c.requires.room, depth-held fits (ap (λ (t : Movetext). t.levels) c.self.view_is));
    }

pub returns-in-Some : goal.returns-in-Some
returns-in-Some g c =
    let now = c.args.self.now.levels in
    let before : now.current.before ≡ Some c.in-Some.start = ap (λ (l : StoredLevel). l.before) (sym c.current.ensures) ∙ c.in-Some.is in
    record {
      levels = opens now.current.before c.in-Some.start now _ before
          (opened c.self.invariant (ap (λ (t : Movetext). t.levels) c.self.view_is) c.push.new.self.items c.at.result c.push.ensures.items
          ∙ ap (λ (l : CodeLevel). record { current = level_of l; around = now.current ∷ now.around }) c.at.ensures);
      plies = ap (λ (t : Movetext). t.plies) c.self.view_is;
      is_after_move = ap (λ (t : Movetext). t.is_after_move) c.self.view_is;
    }
