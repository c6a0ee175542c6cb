-- **Definition**: by which mode a game is written, if it is written, and the sink as contracts see
-- it. Of a game that is silent they see a sink that reports no bytes. Its count of failures stays
-- 0, so no call returns `WriteFault`, which would raise it.
use Rattle.std.specs.Prelude.{ℕ, Bool, true, false, List, Option, None, Some}
use Rattle.pgn_layout.specs.Device.{Device}
use Rattle.pgn_game.specs.declared.mode.Mode.{Mode}
use Rattle.pgn_game.specs.declared.mode.Mode.TheVariants as modes
use Rattle.pgn_game.specs.declared.mode.Written.{Written}
use Rattle.pgn_game.specs.declared.mode.Written.TheVariants.{Full, Reduced, Nothing}

-- the mode by which a game is written; a silent one has none
abbrev pub mode_unless : (silent : Bool) → Mode → Option Mode
mode_unless true mode = None
mode_unless false mode = Some mode

-- the same, as the code stores it
abbrev pub mode_of_written : Written → Option Mode
mode_of_written Full = Some modes.Full
mode_of_written Reduced = Some modes.Reduced
mode_of_written Nothing = None

-- whether nothing is written
abbrev pub is_nothing : Written → Bool
is_nothing Nothing = true
is_nothing _ = false

-- what a mode writes
abbrev pub written_of_mode : Mode → Written
written_of_mode modes.Full = Full
written_of_mode modes.Reduced = Reduced

-- the bytes that a sink has taken, and its count of failures, as contracts see them
abbrev pub bytes_seen : (silent : Bool) → Option (List ℕ) → Option (List ℕ)
bytes_seen true bytes = None
bytes_seen false bytes = bytes

abbrev pub failures_seen : (silent : Bool) → ℕ → ℕ
failures_seen true failures = 0
failures_seen false failures = failures

-- the same of a sink before a call and after it
abbrev pub seen : (silent : Bool) → Device → Device
seen silent sink = record {
  before = bytes_seen silent sink.before;
  after = bytes_seen silent sink.after;
  failures = failures_seen silent sink.failures;
  failures_after = failures_seen silent sink.failures_after;
}
