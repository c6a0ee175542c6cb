use Rattle.pgn_game.proofs.Words.{◌+◌, arith, ap, sym, refl, rules}
use Rattle.pgn_game.specs.public.ItemsCalls.{Current}
use Rattle.pgn_game.specs.declared.event.Event.TheVariants as events
use Rattle.pgn_game.proofs.giving.CurrentFitsInMemory.{current_fits_reader}
use Rattle.pgn_game.proofs.giving.EventToItem.{none_ended, spelled_plain, takes_event, takes_refused}
use Rattle.pgn_game.proofs.current_game.CurrentGame.take.Goals as goal

pub is_in_movetext-begun-requires : goal.is_in_movetext-begun-requires
is_in_movetext-begun-requires g c = search current_fits_reader

pub accept-requires : goal.accept-requires
accept-requires g c = (search current_fits_reader, (rw (← c.self.view_is) at c.requires.plies, c.requires.token))

pub returns-in-Word : goal.returns-in-Word
returns-in-Word g c =
    let same = c.self.view_is in
    rw (c.give.ensures.result, c.give.ensures.current, c.keep_word.ensures)
    (takes_event _ _ _ (events.Word c.in-Word.text) (rw (c.in-Ok-Some.field-0-is, c.in-Word.is) at c.in-Ok-Some.ensures) c.self.inside.games c.in-Word.text.now refl
    c.args.self.now (sym (ap (λ (x : Current). x.reading) same)) (omega (arith, ap (λ (x : Current). x.games) same)) c.is_in_movetext-begun.result
    c.is_in_movetext-begun.ensures)

pub returns-in-Marker : goal.returns-in-Marker
returns-in-Marker g c =
    let same = c.self.view_is in
    rw (c.give-in-Marker.ensures.result, c.give-in-Marker.ensures.current)
    (takes_event _ _ _ (events.Marker c.in-Marker.marker) (rw (c.in-Ok-Some.field-0-is, c.in-Marker.is) at c.in-Ok-Some.ensures) (c.self.inside.games + 1)
    c.self.inside.word.items tt
    c.args.self.now (sym (ap (λ (x : Current). x.reading) same)) (omega (arith, ap (λ (x : Current). x.games) same)) c.is_in_movetext-begun.result
    c.is_in_movetext-begun.ensures)

pub returns-in_default : goal.returns-in_default
returns-in_default g c =
    let same = c.self.view_is in
    let e = c.in-Ok-Some.event in
    rw (c.give-in_default.ensures.result, c.give-in_default.ensures.current, c.item_of.ensures)
    (takes_event _ _ _ e (rw c.in-Ok-Some.field-0-is at c.in-Ok-Some.ensures) c.self.inside.games c.self.inside.word.items
    (spelled_plain e c.self.inside.word.items c.in_default.not-Word)
    c.args.self.now (sym (ap (λ (x : Current). x.reading) same)) (omega (arith, ap (λ (x : Current). x.games) same, none_ended e c.in_default.not-Marker))
    c.is_in_movetext-begun.result c.is_in_movetext-begun.ensures)

pub returns-in-Err : goal.returns-in-Err
returns-in-Err g c = search (rules, takes_refused)
