use Rattle.pgn_game.proofs.Words.{◌≡◌, length, length-append, length-map, map, option_to_list, Movetext, Option, StoredLevel, ap, arith, StoredLevels, level_of}
use Rattle.pgn_game.specs.declared.levels.Level.{Level as CodeLevel}
use Rattle.pgn_game.proofs.putting.CodeLevelsToStored.{closes, fits_front, held, popped}
use Rattle.pgn_game.proofs.levels.Levels.close.Goals as goal

pub invariant_of-self : goal.invariant_of-self
invariant_of-self g c =
    let fits = c.self.invariant in
    let same : c.args.self.now.levels.around ≡ map level_of fits.around =
    ap (λ (ls : StoredLevels). ls.around) (held fits (ap (λ (t : Movetext). t.levels) c.self.view_is)) in
    fits_front g.row.L c.pop.new.self.items fits.around (popped fits c.pop.new.self.items c.pop.ensures.rest)
    (omega (arith, c.requires, ap (length {A = StoredLevel}) same, length-map fits.around level_of))
    (omega (
      arith,
      fits.room,
      ap (length {A = Option CodeLevel}) c.pop.ensures.items,
      length-append c.pop.new.self.items (option_to_list c.pop.result),
    ))

pub returns : goal.returns
returns g c =
    let fits = c.self.invariant in
    record {
      levels = (
        c.requires,
        closes c.pop.new.self.items fits.around c.args.self.now.levels.around (popped fits c.pop.new.self.items c.pop.ensures.rest)
            (ap (λ (ls : StoredLevels). ls.around) (held fits (ap (λ (t : Movetext). t.levels) c.self.view_is))),
      );
      plies = ap (λ (t : Movetext). t.plies) c.self.view_is;
      is_after_move = ap (λ (t : Movetext). t.is_after_move) c.self.view_is;
    }
