-- **Bookkeeping**: the parts of a call of `Games::next`: what a read gives, and what is counted.
-- Letters: as in `GamesCalls` and `ConverterSteps`.
use Rattle.std.specs.Prelude.{◌≡◌, ℕ, ◌<◌, ◌≤◌, Bool, true, false, List, [], length, Option, None, Some, Result, Ok, Err}
use Rattle.std.specs.Io.KnownBytes.{Consumes, IsAtEnd, Keeps}
use Rattle.pgn_layout.specs.Device.{Device}
use Rattle.pgn_game.specs.declared.reason.Reason.TheVariants.{ReadFault}
use Rattle.pgn_game.specs.declared.reason.Fault.{Fault}
use Rattle.pgn_game.specs.declared.source.ReadFailed.{ReadFailed}
use Rattle.pgn_game.specs.public.ConverterCalls.{Converter, KeepsFault}
use Rattle.pgn_game.specs.public.Conversion.{CountsResult}
use Rattle.pgn_game.specs.public.GamesCalls.{Games, ReadsNext, most_left}

-- what a read puts into the empty buffer: bytes, or none at the end of the source (`false`) or if
-- it fails
abbrev pub FillResult : Option (List ℕ) → Option (List ℕ) → List ℕ → Result Bool ReadFailed → Type 0
FillResult left_old left_new new (Ok true) = (0 < length new) × Consumes left_old left_new new
FillResult left_old left_new new (Ok false) = (new ≡ []) × Consumes left_old left_new [] × IsAtEnd left_new
FillResult left_old left_new new (Err failed) = Keeps left_old left_new

-- The same for a converter. A failed read is its fault, at the number of bytes used. The rest of it
-- stays as it was, but no game is just finished.
abbrev pub MoreResult : Option (List ℕ) → Option (List ℕ) → Converter → Converter → List ℕ → Result Bool Fault → Type 0
MoreResult left_old left_new old new unused (Ok true) = (new ≡ old) × (0 < length unused) × Consumes left_old left_new unused
MoreResult left_old left_new old new unused (Ok false) = (new ≡ old) × (unused ≡ []) × Consumes left_old left_new [] × IsAtEnd left_new
MoreResult left_old left_new old new unused (Err f) = (f ≡ record { at = old.lexer.count; reason = ReadFault }) × (new ≡ record old { just_finished = None; fault = Some f }) × Keeps left_old left_new

-- What `next_game` does to a converter and a buffer, and what it counts.
pub record GoesToNextGame (old new : Games) (result : Result Bool Fault) (source sink : Device) : Type 0 where
  pub reads : ReadsNext old new result source sink
  pub fewer : result ≡ Ok true → most_left new < most_left old
  pub fault : KeepsFault new.converter result
  pub probes : old.converter.reading.most_probes ≤ new.converter.reading.most_probes
  pub counted : old.converter.fault ≡ None → CountsResult result source sink
