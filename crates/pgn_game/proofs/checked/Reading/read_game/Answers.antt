use Rattle.pgn_game.proofs.Words.{◌≡◌, ◌∙◌, ℕ, ap, arith, Bool, true, false, Option, None, Ok, Err, List, Profile, Token, Fault, Result, Reading, Device, ReadsToGameEnd, AfterGameEnd, StandsBetween, device, no_sink, rules}
use Rattle.pgn_game.specs.steps.Readings.{reading_of}
use Rattle.pgn_game.proofs.ReaderFitsInMemory.{reading_fits_converter}
use Rattle.pgn_game.proofs.twice.FailuresOfSteps.{no_write, seen_none}
use Rattle.pgn_game.proofs.twice.GamesOfReadings.{all_read, begins_first, first_fails, game_read, start_at}
use Rattle.pgn_game.proofs.reader.ErrorReturned.{error_returned}
use Rattle.pgn_game.proofs.checked.Reading.read_game.Goals as goal
use Rattle.pgn_game.proofs.checked.Reading.read_game.Goals.{After-read_to_game_end}

-- What was read up to the end of the game. Nothing is written.
module _ (g : _) (c : After-read_to_game_end g) where
  abbrev old : Reading
  old = reading_of c.self.inside.converter c.self.inside.buffer c.self.inside.has_ended

  abbrev new : Reading
  new = reading_of c.read_to_game_end.new.converter c.read_to_game_end.new.buffer c.read_to_game_end.new.has_ended

  abbrev source : Device
  source = device g.R.Source.left g.R.Source.failures c.args.source.now c.read_to_game_end.new.source

  reads : (r : Result Bool Fault) → c.read_to_game_end.result ≡ r → ReadsToGameEnd old new r source no_sink
  reads r is = seen_none (λ d. ReadsToGameEnd old new r source d) _ (rw is at c.read_to_game_end.ensures.reads)

  after : (r : Result Bool Fault) → c.read_to_game_end.result ≡ r → old.converter.reading.writing.is_silent ≡ true → (q : Profile) (left_old : Option (List ℕ)) (given : List Token)
      → (stands : StandsBetween q left_old source.before given old) → AfterGameEnd (start_at q old given None None) left_old source.after new r None
  after r is silent q left_old given stands =
      (reads r is).reads _ left_old stands.has_given.bytes (begins_first q left_old source.before old given None stands.has_given (rw (← c.self.view_is) at c.requires.going) silent)

pub read_to_game_end-requires : goal.read_to_game_end-requires
read_to_game_end-requires g c = (search reading_fits_converter, rw (← c.self.view_is) at c.requires.going)

pub placed_marker-requires : goal.placed_marker-requires
placed_marker-requires g c = search reading_fits_converter

-- what the call says of any result
module _ (g : _) (c : After-read_to_game_end g) where
  silent : c.read_to_game_end.new.converter.reading.writing.is_silent ≡ c.args.self.now.converter.reading.writing.is_silent
  silent = c.read_to_game_end.ensures.silent.silent ∙ ap (λ (r : Reading). r.converter.reading.writing.is_silent) c.self.view_is

pub returns-in_err-finished : goal.returns-in_err-finished
returns-in_err-finished g c =
    let place = (goal.at.returns-in_err-finished g c).After-read_to_game_end in
    let f = c.in_err-finished.field-0.0 in
    let all = reads g place (Err f) c.in_err-finished.was in
    rw (error_returned _ c.from_residual.ensures.1) (record {
      reads = λ quiet q left_old given stands.
          first_fails q left_old _ _ given (old g place) (new g place) None None (rw (← c.self.view_is) at stands.has_given) f (no_write f.reason _ _ all.counted)
          (omega (arith, all.games)) (after g place (Err f) c.in_err-finished.was (rw (← c.self.view_is) at quiet) q left_old given (rw (← c.self.view_is) at stands));
      going = tt;
      silent = silent g place;
      counted = all.counted;
    })

pub returns-then-finished : goal.returns-then-finished
returns-then-finished g c =
    let place = (goal.at.returns-then-finished g c).After-read_to_game_end in
    let is : c.read_to_game_end.result ≡ Ok true = c.in_ok-finished.was ∙ ap Ok c.if-finished.true in
    let all = reads g place (Ok true) is in
    record {
      reads = λ quiet q left_old given stands.
          let to = after g place (Ok true) is (rw (← c.self.view_is) at quiet) q left_old given (rw (← c.self.view_is) at stands) in
          game_read q left_old _ _ given (old g place) (new g place) None None None (rw (← c.self.view_is) at stands.has_given) to.0 to.1 to.2 to.3 to.4
          all.games all.finished c.placed_marker.result c.placed_marker.ensures.marker c.placed_marker.ensures.place;
      going = search rules;
      silent = silent g place;
      counted = all.counted;
    }

pub returns : goal.returns
returns g c =
    let place = (goal.at.returns g c).After-read_to_game_end in
    let is : c.read_to_game_end.result ≡ Ok false = c.in_ok-finished.was ∙ ap Ok c.if-finished.false in
    let all = reads g place (Ok false) is in
    record {
      reads = λ quiet q left_old given stands.
          all_read q left_old _ (g.R.Source.left c.read_to_game_end.new.source) given (old g place) (new g place) None None (rw (← c.self.view_is) at stands.has_given)
          (after g place (Ok false) is (rw (← c.self.view_is) at quiet) q left_old given (rw (← c.self.view_is) at stands)) (omega (arith, all.games)) all.finished;
      going = tt;
      silent = silent g place;
      counted = all.counted;
    }
