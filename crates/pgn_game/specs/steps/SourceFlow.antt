-- **Bookkeeping**: how far a source was read up to the end of its next game, or to its own end.
-- Letters: as in `Flow` and `GamesCalls`. The source has given the bytes u before a call.
use Rattle.pgn_game.specs.public.Conversion.{CountsResult}
use Rattle.std.specs.Prelude.{◌≡◌, ◌+◌, ◌^◌, ◌<◌, ◌≤◌, Bool, true, false, List, [], ◌++◌, ℕ, drop, Option, None, Some, Result, Ok, Err}
use Rattle.std.specs.Io.KnownBytes.{Consumes, IsAtEnd}
use Rattle.pgn_layout.specs.Device.{Device}
use Rattle.pgn_lexer.specs.Tokens.{Token}
use Rattle.pgn_game.specs.declared.reason.Reason.TheVariants.{ReadFault}
use Rattle.pgn_game.specs.declared.reason.Fault.{Fault}
use Rattle.pgn_game.specs.public.ConverterCalls.{Converter, KeepsFault, within_limit}
use Rattle.pgn_game.specs.public.GamesCalls.{Games}
use Rattle.pgn_game.specs.steps.Flow.{At, Closes, FinishesNoneElse, PassesLimit, Start, StopsAt, games_in, so_far}

-- A call has read so far from a start: the source has given `more`, and of all its bytes those
-- before place 2^62 are read but for the unused ones.
pub record HasReadSince (start : Start) (u : List ℕ) (now : Games) (source : Device) (after : Option (List ℕ)) : Type 0 where
  pub more : List ℕ
  pub consumed : Consumes source.before source.after more
  pub unused : drop now.converter.lexer.count (u ++ more) ≡ now.unused
  pub tokens : List Token
  pub here : At start (so_far (within_limit (u ++ more))) now.converter tokens after

-- the same from wherever the games stood since any start
abbrev pub ReadsSince : Games → Games → Device → Device → Type 0
ReadsSince old now source sink =
    (start : Start) (u : List ℕ) (tokens : List Token) → drop old.converter.lexer.count u ≡ old.unused
    → At start (so_far (within_limit u)) old.converter tokens sink.before → HasReadSince start u now source sink.after

-- How reading stops in a source.
-- - `at_token`: a token was not taken.
-- - `past_limit`: the source has given the byte at place 2^62.
-- - `at_read`: a read failed. All bytes that the source gave were used, and `now` has read them.
pub data SourceStops (start : Start) (u : List ℕ) (new : Converter) (source : Device) (after : Option (List ℕ)) : Fault → Type 0 where
  at_token : (f : Fault) (more : List ℕ) → Consumes source.before source.after more → StopsAt start (so_far (within_limit (u ++ more))) f new after
      → SourceStops start u new source after f
  past_limit : (f : Fault) (more : List ℕ) → Consumes source.before source.after more → PassesLimit start (u ++ more) f new after
      → SourceStops start u new source after f
  at_read : (f : Fault) (more : List ℕ) → Consumes source.before source.after more → (now : Converter) (tokens : List Token)
      → At start (so_far (within_limit (u ++ more))) now tokens after → drop now.lexer.count (u ++ more) ≡ []
      → f ≡ record { at = now.lexer.count; reason = ReadFault } → new ≡ record now { just_finished = None; fault = Some f }
      → SourceStops start u new source after f

-- What `read_source` results in: a game was finished (`true`), the source has ended (`false`), or
-- reading stopped.
abbrev pub AfterSource : Start → List ℕ → Games → Result Bool Fault → Device → Option (List ℕ) → Type 0
AfterSource start u new (Ok true) source after =
    (h : HasReadSince start u new source after) × Closes start (so_far (within_limit (u ++ h.more))) new.converter h.tokens
AfterSource start u new (Ok false) source after = HasReadSince start u new source after × (new.unused ≡ []) × IsAtEnd source.after
AfterSource start u new (Err f) source after = SourceStops start u new.converter source after f

-- What `read_source` does from wherever the games stood since any start, and what it counts.
pub record ReadsSource (old new : Games) (result : Result Bool Fault) (source sink : Device) : Type 0 where
  pub reads : (start : Start) (u : List ℕ) (tokens : List Token) → drop old.converter.lexer.count u ≡ old.unused
      → At start (so_far (within_limit u)) old.converter tokens sink.before → AfterSource start u new result source sink.after
  pub short : old.converter.lexer.count ≤ 2 ^ 62
  pub games : new.converter.games ≡ old.converter.games + games_in result
  pub few : result ≡ Ok true → old.converter.games < 2 ^ 64
  pub none_else : FinishesNoneElse new.converter result
  pub not_finished : new.converter.is_finished ≡ false
  pub fault : KeepsFault new.converter result
  pub probes : old.converter.reading.most_probes ≤ new.converter.reading.most_probes
  pub counted : CountsResult result source sink
