use Rattle.pgn_game.specs.declared.converter.Fed.{Fed}
use Rattle.pgn_game.proofs.Words.{◌-◌, ◌^◌, refl, arith, Err, take-nil, device}
use Rattle.pgn_game.proofs.ReaderFitsInMemory.{fits_alike}
use Rattle.pgn_game.proofs.putting.SilentReader.{none_fails, silence_kept}
use Rattle.pgn_game.proofs.flow.FedFront.{after_feed}
use Rattle.pgn_game.proofs.flow.Stops.{shown_if, stop_shown_if}
use Rattle.pgn_game.proofs.converter.Converter.feed.Goals as goal

pub feed_piece-requires : goal.feed_piece-requires
feed_piece-requires g c =
    (search fits_alike, rw (← c.self.view_is) (record { no_fault = c.in_default.is; not_finished = rw (← c.self.view_is) at c.requires.not_finished }))

pub returns-clause-feeds : goal.returns-clause-feeds
returns-clause-feeds g c =
    let feeds = c.feed_piece.ensures.feeds in
    let same = c.feed_piece.ensures.silent.silent in
    let sink = device g.W.Sink.taken g.W.Sink.failures c.args.out.now c.feed_piece.new.out in
    λ p u b given stands follows.
    after_feed p u b given c.args.self.now c.feed_piece.new.self c.args.piece.now (2 ^ 62 - c.args.self.now.lexer.count) _ _ _ _ stands c.requires.not_finished follows
    (omega (arith, stands.lexer.count, feeds.goes.grows, feeds.goes.short)) c.feed_piece.result (shown_if _ _ _ same)
    (λ f is. stop_shown_if _ _ _ _ same (λ silent. none_fails {A = Fed} _ (Err f) sink silent (rw is at feeds.goes.counted))) feeds

pub returns-clause-empty : goal.returns-clause-empty
returns-clause-empty g c = λ none going. (rw none at (c.feed_piece.ensures.feeds.none (rw none (take-nil _)))).0.0

pub returns-clause-used : goal.returns-clause-used
returns-clause-used g c = c.feed_piece.ensures.feeds.goes.used

pub returns-clause-count : goal.returns-clause-count
returns-clause-count g c = c.feed_piece.ensures.feeds.goes.count

pub returns-clause-grows : goal.returns-clause-grows
returns-clause-grows g c = c.feed_piece.ensures.feeds.goes.grows

pub returns-clause-within : goal.returns-clause-within
returns-clause-within g c = c.feed_piece.ensures.feeds.goes.within

pub returns-clause-short : goal.returns-clause-short
returns-clause-short g c = c.feed_piece.ensures.feeds.goes.short

pub returns-clause-advances : goal.returns-clause-advances
returns-clause-advances g c = c.feed_piece.ensures.feeds.goes.advances

pub returns-clause-not_finished : goal.returns-clause-not_finished
returns-clause-not_finished g c = c.feed_piece.ensures.feeds.goes.not_finished

pub returns-clause-fault : goal.returns-clause-fault
returns-clause-fault g c = c.feed_piece.ensures.feeds.goes.fault

pub returns-clause-games : goal.returns-clause-games
returns-clause-games g c = c.feed_piece.ensures.feeds.goes.games

pub returns-clause-probes : goal.returns-clause-probes
returns-clause-probes g c = c.feed_piece.ensures.feeds.goes.probes

pub returns-clause-counted : goal.returns-clause-counted
returns-clause-counted g c = λ going. c.feed_piece.ensures.feeds.goes.counted

pub returns-clause-silent : goal.returns-clause-silent
returns-clause-silent g c = c.feed_piece.ensures.silent

pub returns-in-Some-clause-silent : goal.returns-in-Some-clause-silent
returns-in-Some-clause-silent g c = silence_kept _ _ _ refl
