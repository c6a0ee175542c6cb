use Rattle.pgn_game.proofs.Words.{Writer, ◌≡◌, ℕ, Appends-nil, All-nil, Parts, Some, ap, arith, false, is_written, length, max, mode_of_written, refl, subst, sym, true, ◌∙◌, rules}
use Rattle.pgn_game.specs.public.MostTried.{CostsToWrite}
use Rattle.pgn_game.specs.games.Game.{move}
use Rattle.pgn_game.proofs.putting.ItemToMovetext.{not_silent}
use Rattle.pgn_game.proofs.putting.SilentReader.{seen_if}
use Rattle.pgn_game.proofs.game.write_move.Goals as goal

pub returns-then-not-writes_move : goal.returns-then-not-writes_move
returns-then-not-writes_move g c =
    let m = c.args.mv.now in
    let old = c.args.reader.now in
    let left : is_written (mode_of_written c.args.writer.now.written) (length old.text.levels.around) (move m) ≡ false = sym (c.if-not-writes_move.ensures m) in
    record {
      tried = c.args.probes;
      writes = search (rules, Appends-nil, All-nil);
      counts = λ held.
          let same : old.most_probes ≡ max old.most_probes c.args.probes = omega (arith, held) in
          ap (λ (n : ℕ). record old { most_probes = n }) same;
      written = refl;
      silent = λ silent. refl;
    }

pub returns : goal.returns
returns g c =
    let m = c.args.mv.now in
    let old = c.args.reader.now in
    let w = c.args.writer.now in
    let written : is_written (mode_of_written w.written) (length old.text.levels.around) (move m) ≡ true = sym (c.if-not-writes_move.ensures m) in
    let writes = not_silent w.written (length old.text.levels.around) (move m) written in
    let put = c.put_move-put.ensures in
    record {
      tried = c.put_move-put.new.probes;
      writes = λ here at.
          let both : Some c.position_before.result.now ≡ Some here = sym c.position_before.ensures ∙ at in
          let is : c.position_before.result.now ≡ here = cc both in
          record {
            puts = search (rules, seen_if);
            writer = put.writer;
            after = rw written put.after;
            tried = rw written
                (subst (λ (p : Parts). CostsToWrite true p (move m) c.args.probes c.put_move-put.new.probes) is put.tried);
            rises = put.rises;
          };
      counts = λ held. c.count_probes.ensures;
      written = ap (λ (w : Writer). w.written) put.writer;
      silent = λ silent. absurd (cc (writes, silent));
    }
