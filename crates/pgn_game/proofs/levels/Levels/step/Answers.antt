use Rattle.pgn_game.proofs.Words.{◌≡◌, ◌∙◌, Some, ap, false, Movetext, StoredLevel, StoredLevels, level_of, get_or, length, ◌-◌}
use Rattle.pgn_game.proofs.putting.CodeLevelsToStored.{current_at, plays}
use Rattle.pgn_game.proofs.levels.Levels.step.Goals as goal

pub returns : goal.returns
returns g c =
    let places = c.self.inside.levels.items in
    let now = c.args.self.now.levels in
    let at : get_or places (length places - 1) c.index-deref_mut-last.result ≡ Some c.in-Some.level =
    cc (c.in-Some.is, c.deref_mut.ensures.value, c.len-last.ensures.value) in
    let same : level_of c.in-Some.level ≡ now.current =
    current_at c.self.invariant (ap (λ (t : Movetext). t.levels) c.self.view_is) c.in-Some.level c.index-deref_mut-last.result at in
    rw (c.deref_mut.ensures.value, c.len-last.ensures.value)
    (ap (λ (ls : StoredLevels). record { levels = ls; plies = c.self.inside.plies; is_after_move = false })
    (plays c.self.invariant (ap (λ (t : Movetext). t.levels) c.self.view_is) (record { position = c.args.next; before = Some c.in-Some.level.position })
    ∙ ap (λ (l : StoredLevel). record { current = record { position = c.args.next; before = Some l.position }; around = now.around }) same)
    ∙ ap (λ (t : Movetext). record t {
      levels = record { current = record { position = c.args.next; before = Some now.current.position }; around = now.around };
    }) c.self.view_is)
