use Rattle.pgn_game.proofs.Words.{◌≡◌, ◌∙◌, ℕ, ap, arith, refl, Bool, true, false, Option, Some, Ok, Err, List, Profile, Token, Fault, Result, Reading, Converter, Device, HasGiven, KeepsSilence, ReadsToGameEnd, AfterGameEnd, StandsBetween, device, sink_of, CountsResult, rules}
use Rattle.pgn_game.specs.steps.Readings.{reading_of}
use Rattle.pgn_game.proofs.ReaderFitsInMemory.{reading_fits_converter}
use Rattle.pgn_game.proofs.putting.SilentReader.{seen_alike, silence_then, unseen}
use Rattle.pgn_game.proofs.twice.FailuresOfSteps.{counts_changed}
use Rattle.pgn_game.proofs.twice.GamesOfReadings.{announced_reading, begins_second, ends_before, game_written, second_fails, start_at}
use Rattle.pgn_game.proofs.checked.Reading.write_game.Goals as goal
use Rattle.pgn_game.proofs.checked.Reading.write_game.Goals.{After-read_to_game_end-read}

-- The second reading, up to the end of the game. The marker of the first reading is announced to
-- it.
module _ (g : _) (c : After-read_to_game_end-read g) where
  abbrev old : Reading
  old = reading_of c.self.inside.converter c.self.inside.buffer c.self.inside.has_ended

  abbrev announced : Reading
  announced = reading_of c.announce_marker.new.self c.self.inside.buffer c.self.inside.has_ended

  abbrev new : Reading
  new = reading_of c.read_to_game_end-read.new.converter c.read_to_game_end-read.new.buffer c.read_to_game_end-read.new.has_ended

  abbrev source : Device
  source = device g.R.Source.left g.R.Source.failures c.args.source.now c.read_to_game_end-read.new.source

  abbrev sink : Device
  sink = device g.W.Sink.taken g.W.Sink.failures c.args.out.now c.read_to_game_end-read.new.out

  same : c.announce_marker.new.self.reading.writing.is_silent ≡ c.self.inside.converter.reading.writing.is_silent
  same = ap (λ (s : Converter). s.reading.writing.is_silent) c.announce_marker.ensures

  silent : KeepsSilence c.self.inside.converter.reading c.read_to_game_end-read.new.converter.reading c.args.out.now c.read_to_game_end-read.new.out
  silent = silence_then _ _ _ _ _ _ (record { silent = same; untouched = λ silent. refl }) c.read_to_game_end-read.ensures.silent

  still : c.self.inside.converter.reading.writing.is_silent ≡ false → c.read_to_game_end-read.new.converter.reading.writing.is_silent ≡ false
  still writes = c.read_to_game_end-read.ensures.silent.silent ∙ same ∙ writes

  module _ (r : Result Bool Fault) (is : c.read_to_game_end-read.result ≡ r) where
    all : ReadsToGameEnd announced new r source (sink_of c.announce_marker.new.self.reading g.W.Sink.taken g.W.Sink.failures c.args.out.now c.read_to_game_end-read.new.out)
    all = rw is at c.read_to_game_end-read.ensures.reads

    has : (q : Profile) (left_old : Option (List ℕ)) (given : List Token) → StandsBetween q left_old source.before given old → HasGiven q left_old source.before announced given
    has q left_old given stands = announced_reading q left_old source.before old given c.args.expected c.announce_marker.new.self c.announce_marker.ensures stands.has_given

    games : announced.converter.games ≡ old.converter.games
    games = ap (λ (s : Converter). s.games) c.announce_marker.ensures

    told : c.announce_marker.new.self.reading.writing.announced ≡ Some c.args.expected
    told = ap (λ (s : Converter). s.reading.writing.announced) c.announce_marker.ensures

    after : c.self.inside.converter.reading.writing.is_silent ≡ false → (q : Profile) (left_old : Option (List ℕ)) (given : List Token)
        → (stands : StandsBetween q left_old source.before given old)
        → AfterGameEnd (start_at q announced given sink.before (Some c.args.expected)) left_old source.after new r sink.after
    after writes q left_old given stands = search (rules, unseen, all, has, begins_second, told)

    counted : CountsResult r source (sink_of c.self.inside.converter.reading g.W.Sink.taken g.W.Sink.failures c.args.out.now c.read_to_game_end-read.new.out)
    counted = seen_alike (CountsResult r source) _ _ sink same all.counted

pub announce_marker-requires : goal.announce_marker-requires
announce_marker-requires g c = search reading_fits_converter

pub read_to_game_end-read-requires : goal.read_to_game_end-read-requires
read_to_game_end-read-requires g c =
    let going = rw (← c.self.view_is) at c.requires.going in
    (search reading_fits_converter, rw c.announce_marker.ensures (record { no_fault = going.no_fault; not_finished = going.not_finished }))

pub place-requires : goal.place-requires
place-requires g c = search reading_fits_converter

pub returns-in-Err : goal.returns-in-Err
returns-in-Err g c =
    let place = (goal.at.returns-in-Err g c).After-read_to_game_end-read in
    let f = c.in-Err.fault in
    rw (← c.self.view_is, c.changed.ensures) (record {
      writes = λ writes q left_old given stands.
          second_fails q left_old _ _ given (announced g place) (new g place) _ _ c.args.expected c.tokens_rise.ensures (has g place (Err f) c.in-Err.is q left_old given stands)
          stands.between f (omega (arith, (all g place (Err f) c.in-Err.is).games)) (still g place writes) (after g place (Err f) c.in-Err.is writes q left_old given stands);
      going = tt;
      counted = counts_changed f.reason _ _ _ _ (counted g place (Err f) c.in-Err.is);
      silent = silent g place;
    })

pub returns-then-finished : goal.returns-then-finished
returns-then-finished g c =
    let place = (goal.at.returns-then-finished g c).After-read_to_game_end-read in
    let is : c.read_to_game_end-read.result ≡ Ok true = c.in-Ok.is ∙ ap Ok c.if-finished.true in
    let all = all g place (Ok true) is in
    rw (← c.self.view_is) (record {
      writes = λ writes q left_old given stands.
          game_written q left_old _ _ given (announced g place) (new g place) _ _ c.args.expected c.tokens_rise.ensures (has g place (Ok true) is q left_old given stands)
          stands.between (after g place (Ok true) is writes q left_old given stands) all.games all.finished (still g place writes);
      going = record { no_fault = all.fault; not_finished = all.finished };
      counted = counted g place (Ok true) is;
      silent = silent g place;
    })

pub returns : goal.returns
returns g c =
    let place = (goal.at.returns g c).After-read_to_game_end-read in
    let is : c.read_to_game_end-read.result ≡ Ok false = c.in-Ok.is ∙ ap Ok c.if-finished.false in
    let all = all g place (Ok false) is in
    rw (← c.self.view_is, c.differs.ensures, c.place.ensures) (record {
      writes = λ writes q left_old given stands.
          ends_before q left_old _ _ given (announced g place) (new g place) _ _ c.args.expected c.tokens_rise.ensures (has g place (Ok false) is q left_old given stands)
          stands.between (after g place (Ok false) is writes q left_old given stands) (omega (arith, all.games)) all.finished (still g place writes);
      going = tt;
      counted = counted g place (Ok false) is;
      silent = silent g place;
    })
