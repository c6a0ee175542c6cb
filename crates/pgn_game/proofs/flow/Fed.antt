-- What `feed` promises of a piece that ends before place 2^62.
use Rattle.pgn_game.proofs.Words.{drop-append-add, false, false≢true, ◌≡◌, ℕ, ◌+◌, ◌≤◌, ◌<◌, ◌^◌, inl, inr, List, [], ◌∷◌, ◌++◌, length, take, drop, Option, None, Some, refl, sym, ap, subst, ◌∙◌, arith, append-nil, length-append, length-take, take-append-add, drop_of_length-le, take_all, Token, Profile, Fault, Converter, Stands, Standing, StandsAfter, Follows, IsDecided, first, AreNext, FedAll, FedGame, FedToFault, read, rules}
use Rattle.pgn_game.specs.steps.Flow.{At, Closes, Start, StopsAt, so_far}
use Rattle.pgn_game.proofs.flow.GamesGoOn.{same_if_as_many}
use Rattle.pgn_game.proofs.flow.Stops.{IsShown, IsStopShown, fed_to_fault, gains_shown, same_since}
use Rattle.pgn_game.proofs.stepping.AcceptedToConverter.{next_in_piece, still_none}
use Rattle.pgn_game.proofs.stepping.BytesWithinLimit.{all_within}
use Rattle.pgn_game.proofs.flow.KnownResults.{since_start}
use Rattle.pgn_game.proofs.stepping.StepsInPiece.{before_any, decided_at_end}

before_piece : {l : Standing} {u : List ℕ} {given : List Token} (b : Option ℕ) (piece : List ℕ) → 0 < length piece → Follows b piece → StandsAfter l u b given → StandsAfter l u (first piece) given
before_piece None piece some follows stands = before_any stands
before_piece (Some x) [] some follows stands = absurd (omega (arith, some))
before_piece {l} {u} {given} (Some x) (c ∷ piece) some follows stands = subst (λ k. StandsAfter l u (Some k) given) (sym follows) stands

module _ (p : Profile) (u : List ℕ) (b : Option ℕ) (given : List Token) (old : Converter) (piece : List ℕ) (a : Option (List ℕ))
    (stands : Stands p old u b given) (going : old.is_finished ≡ false) (follows : Follows b piece) (some : 0 < length piece) where
  abbrev pub start : Start
  start = record { profile = p; count = length u; given = given; before = a; expected = None }

  used_there : (n : ℕ) → take (length u + n) (u ++ piece) ≡ u ++ take n piece
  used_there n = take-append-add u piece n

  left_there : (n : ℕ) → drop (length u + n) (u ++ piece) ≡ drop n piece
  left_there n = drop-append-add u piece n

  all_there : take (length u) (u ++ piece) ≡ u
  all_there = ap (λ n. take n (u ++ piece)) (omega arith) ∙ used_there 0 ∙ append-nil u

  piece_left : drop (length u) (u ++ piece) ≡ piece
  piece_left = ap (λ n. drop n (u ++ piece)) (omega arith) ∙ left_there 0

  pub begins : At start (so_far (u ++ piece)) old given a
  begins = search (rules, since_start, length-append, all_there, piece_left, before_piece, false≢true)

  pub is_ahead : drop old.lexer.count (u ++ piece) ≡ piece
  is_ahead = rw stands.lexer.count piece_left

  module _ (new : Converter) (tokens : List Token) (c : Option (List ℕ)) (at : At start (so_far (u ++ piece)) new tokens c)
      (shown : IsShown new.reading.writing.is_silent a) (used : ℕ) (count : new.lexer.count ≡ length u + used) where
    there : take new.lexer.count (u ++ piece) ≡ u ++ take used piece
    there = rw count (used_there used)

    behind : drop new.lexer.count (u ++ piece) ≡ drop used piece
    behind = rw count (left_there used)

    is_decided : (tokens ≡ given → ⊥) → IsDecided (u ++ take used piece) (drop used piece) tokens
    is_decided more = elim at.decided [ inl is ↦ rw (there, behind) at is | inr none ↦ absurd (more none.1) ]

    stands_now : Stands p new (u ++ take used piece) (first (drop used piece)) tokens
    stands_now = record { known = at.since.known; lexer = rw (there, behind) at at.lexer.1; has_read = at.since.has_read }

    -- the whole piece was used
    pub fed_all : used ≡ length piece → new.just_finished ≡ None → new.games ≡ old.games → FedAll p u b given piece new a c
    fed_all whole none same =
        let all : take used piece ≡ piece = take_all used piece (omega (arith, whole)) in
        let end : drop used piece ≡ [] = drop_of_length-le piece (omega (arith, whole)) in
        record {
          tokens = tokens;
          stands = rw (still_none b piece some) (rw (all, end) at stands_now);
          decided = search (rules, decided_at_end, there, behind);
          empty = λ h. absurd (omega (arith, h, some));
          no_game = same_since start new tokens c at.since (same ∙ stands.has_read.games);
          none_just_finished = none;
          gains = gains_shown start new tokens c refl at.since shown;
        }

    all_next : AreNext (u ++ piece) tokens
    all_next = next_in_piece new.lexer u piece used stands_now.lexer

    -- a game was finished
    pub fed_game : length (u ++ piece) ≤ 2 ^ 62 → new.games ≡ old.games + 1 → (ends : Closes start (so_far (u ++ piece)) new tokens)
        → FedGame p u given piece used new a c
    fed_game short one ends =
        let front = given ++ ends.more in
        let ts = front ++ ends.marker ∷ [] in
        let size : length (read p tokens).progress.games ≡ length (read p front).progress.games + 1 = search (rules, length-append) in
        let same = same_if_as_many p given ends.more (omega (arith, size, one, stands.has_read.games, at.since.has_read.games)) in
        let is_now = is_decided (λ is. absurd (omega (arith, one, stands.has_read.games, at.since.has_read.games, ap (λ l. length (read p l).progress.games) is))) in
        record {
          tokens = front;
          marker = ends.marker;
          game = ends.game;
          stands = rw ends.cut at stands_now;
          at_limit = search (rules, decided_at_end, drop_of_length-le, length-append, length-take);
          decided = rw ends.cut at is_now;
          next = rw (all_within (u ++ piece) short) (rw ends.cut at all_next);
          ends = rw count at ends.ends;
          no_game = same;
          one_game = rw ends.cut at ends.one_game ∙ ap (λ l. l ++ ends.game ∷ []) same;
          just_finished = ends.just_finished;
          gains = rw ends.cut at (gains_shown start new tokens c refl at.since shown);
        }

  -- it stopped
  pub fed_stops : (f : Fault) (new : Converter) (c : Option (List ℕ)) → new.games ≡ old.games → IsStopShown new.reading.writing.is_silent a f.reason
      → StopsAt start (so_far (u ++ piece)) f new c → FedToFault p (u ++ piece) given f new.reading a c
  fed_stops f new c same shown to = fed_to_fault start (u ++ piece) f new c refl (same ∙ stands.has_read.games) shown to
