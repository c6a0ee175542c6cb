use Rattle.pgn_game.proofs.Words.{◌≡◌, subst, Event, Kind, Marker, Means, Ok, GameState, RefusesMarker, EndsAtMarker, rules}
use Rattle.pgn_game.proofs.ReaderLemmas.{reader_alike}
use Rattle.pgn_game.specs.declared.event.Event.TheVariants as events
use Rattle.pgn_game.specs.steps.Judged.{Judges}
use Rattle.pgn_game.proofs.giving.SilentEvents.{end_accepted, end_refused, event_accepted, event_refused}
use Rattle.pgn_game.proofs.reader.Reader.accept_in_movetext.Goals as goal

-- what is no marker is one of the other events
meant : (old : GameState) (k : Kind) (new : GameState) (e : Event) → ((m : Marker) → e ≡ events.Marker m → ⊥) → Judges old k new (Ok e) → Means old k new e
meant old k new e plain h = search rules

pub returns-in-Err : goal.returns-in-Err
returns-in-Err g c = event_refused c.in-Err.ensures

pub begin_movetext-requires : goal.begin_movetext-requires
begin_movetext-requires g c = search (rules, meant, reader_alike)

pub end_game-requires : goal.end_game-requires
end_game-requires g c = search (rules, reader_alike)

pub returns-in-Err-end_game : goal.returns-in-Err-end_game
returns-in-Err-end_game g c =
    let h = rw c.in-Marker.is at c.in-Ok.ensures in
    end_refused _ _ _ c.in-Marker.marker h.is (subst (λ (r : GameState). RefusesMarker r c.in-Marker.marker c.end_game.new.self c.in-Err-end_game.reason) h.same c.in-Err-end_game.ensures)

pub returns-in-Ok-end_game : goal.returns-in-Ok-end_game
returns-in-Ok-end_game g c =
    let h = rw c.in-Marker.is at c.in-Ok.ensures in
    end_accepted _ _ _ c.in-Marker.marker h.is c.requires.may.stage
    (subst (λ (r : GameState). EndsAtMarker r c.in-Marker.marker c.end_game.new.self) h.same c.in-Ok-end_game.ensures)

pub returns-in_default : goal.returns-in_default
returns-in_default g c =
    let means = meant _ _ _ c.in-Ok.event c.in_default.not-Marker c.in-Ok.ensures in
    rw c.begin_movetext.ensures (event_accepted _ _ _ c.in-Ok.event means c.requires.may.stage c.in_default.not-Marker)
