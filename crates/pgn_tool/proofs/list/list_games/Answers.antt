use Rattle.pgn_tool.proofs.Words.{◌≡◌, Bool, true, false, Ok, Err, Device, device, Games, ap, refl, subst, ◌∙◌, [], Appends-nil, Consumes-nil, nowhere, ReadsNext, seen, CountsResult}
use Rattle.pgn_tool.proofs.runs.CallToLines.{all_listed, game_cut, game_listed, list_stops}
use Rattle.pgn_tool.proofs.list.list_games.Goals as goal

-- the sink of silent games, as contracts see it: no bytes, and a count that stays 0
silently : (P : Device → Type 0) (silent : Bool) (d : Device) → silent ≡ true → P (seen silent d) → P (seen true d)
silently P silent d is h = subst (λ (b : Bool). P (seen b d)) is h

pub loop-fault-init : goal.loop-fault-init
loop-fault-init g c =
    let is = c.write_nothing.ensures.only_switch in
    record {
      fault = ap (λ (games : Games). games.converter.fault) is ∙ c.new-games.ensures.no_fault;
      silent = ap (λ (games : Games). games.converter.reading.writing.is_silent) is;
      source = refl;
      sink = refl;
      read = record { bytes = []; tokens = []; consumed = Consumes-nil _; have_read = c.write_nothing.ensures.begins _ _ _ (c.new-games.ensures.begins _); written = Appends-nil _ };
    }

pub returns-in-Ok-false-clause-lists : goal.returns-in-Ok-false-clause-lists
returns-in-Ok-false-clause-lists g c =
    let so = c.loop-fault.invariant.read in
    let source = device g.R.Source.left g.R.Source.failures c.loop-fault.source c.next.new.source in
    let next = silently (λ (d : Device). ReadsNext c.loop-fault.games c.next.new.self (Ok false) source d) _ nowhere
    c.loop-fault.invariant.silent (rw c.in-Ok-false.field-0-test at c.in-Ok-false.ensures.reads) in
    all_listed _ _ _ c.loop-fault.games c.next.new.self _ _ so (next _ _ _ so.have_read)

pub returns-in-Err-clause-lists : goal.returns-in-Err-clause-lists
returns-in-Err-clause-lists g c =
    let so = c.loop-fault.invariant.read in
    let source = device g.R.Source.left g.R.Source.failures c.loop-fault.source c.next.new.source in
    let next = silently (λ (d : Device). ReadsNext c.loop-fault.games c.next.new.self (Err c.in-Err.fault) source d) _ nowhere
    c.loop-fault.invariant.silent c.in-Err.ensures.reads in
    list_stops _ _ _ c.loop-fault.games c.next.new.self _ _ so _ c.in-Err.fault _ _ (next _ _ _ so.have_read).stops
    (silently (λ (d : Device). CountsResult {A = Bool} (Err c.in-Err.fault) source d) _ nowhere c.loop-fault.invariant.silent
    (c.in-Err.ensures.counted c.loop-fault.invariant.fault))

pub returns-in-Err-list_game-clause-lists : goal.returns-in-Err-list_game-clause-lists
returns-in-Err-list_game-clause-lists g c =
    let so = c.loop-fault.invariant.read in
    let source = device g.R.Source.left g.R.Source.failures c.loop-fault.source c.next.new.source in
    let next = silently (λ (d : Device). ReadsNext c.loop-fault.games c.next.new.self (Ok true) source d) _ nowhere
    c.loop-fault.invariant.silent (rw c.in-Ok-true.field-0-test at c.in-Ok-true.ensures.reads) in
    game_cut _ _ _ c.loop-fault.games c.next.new.self _ _ so (next _ _ _ so.have_read) _ c.in-Err-list_game.ensures.written

pub loop-fault-preserved : goal.loop-fault-preserved
loop-fault-preserved g c =
    let so = c.loop-fault.invariant.read in
    let source = device g.R.Source.left g.R.Source.failures c.loop-fault.source c.next.new.source in
    let next = silently (λ (d : Device). ReadsNext c.loop-fault.games c.next.new.self (Ok true) source d) _ nowhere
    c.loop-fault.invariant.silent (rw c.in-Ok-true.field-0-test at c.in-Ok-true.ensures.reads) in
    let counted = c.in-Ok-true.ensures.counted c.loop-fault.invariant.fault in
    record {
      fault = c.in-Ok-true.ensures.fault;
      silent = c.in-Ok-true.ensures.silent.silent ∙ c.loop-fault.invariant.silent;
      source = counted.0 ∙ c.loop-fault.invariant.source;
      sink = c.in_default.ensures.failures ∙ c.loop-fault.invariant.sink;
      read = game_listed _ _ _ c.loop-fault.games c.next.new.self _ _ so (next _ _ _ so.have_read) _ c.in_default.ensures.written;
    }
