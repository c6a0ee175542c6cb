use Rattle.pgn_game.proofs.Words.{◌≡◌, ◌+◌, ◌-◌, ◌^◌, ◌<◌, ◌∙◌, ℕ, [], Ok, false, true, length, length-take, take, arith, ap, sym, refl, common_steps, Converter, rules}
use Rattle.pgn_game.proofs.ReaderFitsInMemory.{fits_alike}
use Rattle.pgn_game.proofs.stepping.StepsAtEnd.{sound_at_none}
use Rattle.pgn_game.proofs.stepping.StepsInPiece.{front_used, limit_left}
use Rattle.pgn_game.proofs.flow.PieceOfAnyLength.{feeds_all, feeds_fault, feeds_game, feeds_none, feeds_past, feeds_to_limit}
use Rattle.pgn_game.proofs.converter.Converter.feed_piece.Goals as goal
use Rattle.pgn_game.proofs.converter.Converter.feed_piece.Goals.{After-feed_front-step}

module _ (g : _) (c : After-feed_front-step g) where
  abbrev n : ℕ
  n = 2 ^ 62 - c.place.result

  room : c.self.inside.lexer.count + n ≡ 2 ^ 62
  room = omega (arith, c.place.ensures, c.self.invariant.count)

  few : c.self.inside.games < 2 ^ 64
  few = search rules

  -- a byte is read
  some : 0 < length (take n c.args.piece.now)
  some = search rules

pub invariant_of-self : goal.invariant_of-self
invariant_of-self g c = sound_at_none _ _ _ _ _ _ c.self.invariant

pub invariant_of-self-else-is_empty : goal.invariant_of-self-else-is_empty
invariant_of-self-else-is_empty g c = sound_at_none _ _ _ _ _ _ c.self.invariant

pub returns-in-Err-clause-feeds : goal.returns-in-Err-clause-feeds
returns-in-Err-clause-feeds g c =
    let after = (goal.at.returns-in-Err-clause-feeds g c).After-feed_front-step in
    let step = rw (c.in-Err.is, c.within_limit-front.ensures) at c.feed_front-step.ensures in
    rw (← c.self.view_is) (feeds_fault _ c.args.piece.now (n g after) (room g after) (some g after) (few g after) c.feed_front-step.new.self _ _ _ _ _ c.in-Err.fault step.reads)

pub returns-then-finished-clause-feeds : goal.returns-then-finished-clause-feeds
returns-then-finished-clause-feeds g c =
    let after = (goal.at.returns-then-finished-clause-feeds g c).After-feed_front-step in
    let read : c.feed_front-step.result.outcome ≡ Ok c.in-Ok.finished = c.in-Ok.is in
    let is : c.feed_front-step.result.outcome ≡ Ok true = read ∙ ap Ok c.if-finished.true in
    let step = rw (is, c.within_limit-front.ensures) at c.feed_front-step.ensures in
    rw (← c.self.view_is) (feeds_game _ c.args.piece.now (n g after) (room g after) (some g after) (few g after) c.feed_front-step.new.self _ _ _ _ _ step.reads)

pub returns-else-front-piece-clause-feeds : goal.returns-else-front-piece-clause-feeds
returns-else-front-piece-clause-feeds g c =
    let after = (goal.at.returns-else-front-piece-clause-feeds g c).After-feed_front-step in
    let read : c.feed_front-step.result.outcome ≡ Ok c.in-Ok.finished = c.in-Ok.is in
    let is : c.feed_front-step.result.outcome ≡ Ok false = read ∙ ap Ok c.if-finished.false in
    let step = rw (is, c.within_limit-front.ensures) at c.feed_front-step.ensures in
    let piece = c.args.piece.now in
    let whole = front_used piece (n g after) (length piece) (rw c.within_limit-front.ensures at c.if-front-piece.false) in
    rw (← c.self.view_is) (feeds_all _ piece (n g after) (room g after) (some g after) (few g after) c.feed_front-step.new.self _ _ _ _ _ step.reads (step.all refl) whole)

pub returns-then-front-piece-clause-feeds : goal.returns-then-front-piece-clause-feeds
returns-then-front-piece-clause-feeds g c =
    let after = (goal.at.returns-then-front-piece-clause-feeds g c).After-feed_front-step in
    let read : c.feed_front-step.result.outcome ≡ Ok c.in-Ok.finished = c.in-Ok.is in
    let is : c.feed_front-step.result.outcome ≡ Ok false = read ∙ ap Ok c.if-finished.false in
    let step = rw (is, c.within_limit-front.ensures) at c.feed_front-step.ensures in
    let piece = c.args.piece.now in
    let more = limit_left piece (n g after) (rw c.within_limit-front.ensures at c.if-front-piece.true) in
    let now = ap (λ (s : Converter). record s { fault = c.too_long-then-front-piece.new.kept }) c.self-2.view_is in
    rw (← c.self.view_is, now, c.too_long-then-front-piece.ensures.kept, c.too_long-then-front-piece.ensures.fault)
    (feeds_to_limit _ piece (n g after) (room g after) (some g after) (few g after) c.feed_front-step.new.self _ _ _ _ _ step.reads (step.all refl) more)

pub returns-then-is_empty-2-clause-feeds : goal.returns-then-is_empty-2-clause-feeds
returns-then-is_empty-2-clause-feeds g c =
    let empty = c.is_empty-then-is_empty.ensures in
    let is = c.if-is_empty-2.true in
    let none : c.args.piece.now ≡ [] = grind (arith, common_steps, empty, is) in
    let going = rw (← c.self.view_is) at c.requires in
    rw (← c.self.view_is) (feeds_none _ c.args.piece.now (2 ^ 62 - c.place.result) (omega (arith, c.place.ensures, c.self.invariant.count)) none going _ _)

pub returns-then-is_empty-clause-feeds : goal.returns-then-is_empty-clause-feeds
returns-then-is_empty-clause-feeds g c =
    let empty = c.is_empty.ensures in
    let is = c.if-is_empty.true in
    let none : c.within_limit-front.result.now ≡ [] = grind (arith, common_steps, empty, is) in
    let front : take (2 ^ 62 - c.place.result) c.args.piece.now ≡ [] = sym c.within_limit-front.ensures ∙ none in
    let some = c.if-is_empty-2.false in
    let asked = c.is_empty-then-is_empty.ensures in
    let left : 0 < length c.args.piece.now = grind (arith, common_steps, asked, some) in
    let zero : 2 ^ 62 - c.place.result ≡ 0 = omega (arith, left, ap (length {A = ℕ}) front, length-take (2 ^ 62 - c.place.result) c.args.piece.now) in
    let going = rw (← c.self.view_is) at c.requires in
    rw (← c.self.view_is, c.too_long.ensures.kept, c.too_long.ensures.fault)
    (feeds_past _ c.args.piece.now (2 ^ 62 - c.place.result) (omega (arith, c.place.ensures, c.self.invariant.count)) zero left going _ _)

pub feed_front-step-requires : goal.feed_front-step-requires
feed_front-step-requires g c =
    let front = ap (length {A = ℕ}) c.within_limit-front.ensures in
    let empty = c.is_empty.ensures in
    let not_empty = c.if-is_empty.false in (
      search fits_alike,
      record {
        before = search rules;
        some = grind (arith, common_steps, empty, not_empty);
        short = omega (arith, front, length-take (2 ^ 62 - c.place.result) c.args.piece.now, c.place.ensures, c.self.invariant.count);
      },
    )
