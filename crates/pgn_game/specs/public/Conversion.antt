-- **Definition**: what a conversion of a whole input does.
-- Letters: p is the profile, s a text, v a verdict, t are the totals, f is a fault, u are the bytes
-- read so far, ts are tokens. n is the most pairs of an origin and a target that were tried for one
-- move. `source` and `sink` are the devices before the call and after it. `before` and `after` are
-- the bytes that the sink has taken, `left_old` and `left_new` those that the source has left, if
-- they report them.
use Rattle.std.specs.Prelude.{◌≡◌, ℕ, ◌^◌, ◌<◌, ◌≤◌, Bool, true, false, IsTrue, List, [], ◌++◌, length, Option, None, Result, Ok, Err, IfSome}
use Rattle.std.specs.Io.KnownBytes.{Appends, Consumes}
use Rattle.pgn_layout.specs.Device.{Device, IsStill, one_more}
use Rattle.pgn_lexer.specs.Tokens.{Token}
use Rattle.pgn_lexer.specs.TokensOf.{tokens_of}
use Rattle.pgn_lexer.specs.Decided.{decided}
use Rattle.pgn_game.specs.declared.reason.Reason.{Reason}
use Rattle.pgn_game.specs.declared.reason.Reason.TheVariants.{ReadFault, WriteFault, InputTooLong}
use Rattle.pgn_game.specs.declared.reason.Fault.{Fault}
use Rattle.pgn_game.specs.declared.conversion.Totals.{Totals}
use Rattle.pgn_game.specs.games.Profile.{Profile}
use Rattle.pgn_game.specs.games.Progress.{read, due, output, Verdict, refused as is_refused, totals, verdict}
use Rattle.pgn_game.specs.export.Due.{Gains}
use Rattle.pgn_game.specs.public.MostTried.{MostTried}
use Rattle.pgn_game.specs.public.ConverterCalls.{AreNext, AreShown, Converter, IsRefused, NoWriteFails, play_moves, Stands, StopsWriting, Stops}

-- the verdict that has these numbers
abbrev pub verdict_in : Totals → Verdict
verdict_in t = totals (record { games = t.games; plies = t.plies })

-- the text s is converted: its verdict is v, and its output is written
abbrev pub IsConverted : Profile → List ℕ → Verdict → Option (List ℕ) → Option (List ℕ) → Type 0
IsConverted p s v before after = (verdict p s ≡ v) × Appends before after (output p s)

-- n is the most pairs tried for one move of the text. It is at most 1,040: 8 for the candidates of
-- the piece, 8 for their rivals, and 1,024 for an answer to a check. It is at least 1 if one of the
-- games has a move.
pub record MostProbes (silent : Bool) (p : Profile) (s : List ℕ) (n : ℕ) : Type 0 where
  pub most : n ≤ 1040
  pub some : IsTrue (play_moves (read p (tokens_of s)).progress.games) → 0 < n
  pub tried : MostTried silent p (tokens_of s) n

-- The text s is converted, and has at most 2^62 bytes. The totals have the numbers of its verdict,
-- and the most pairs tried.
pub record IsTotalled (silent : Bool) (p : Profile) (s : List ℕ) (t : Totals) (before after : Option (List ℕ)) : Type 0 where
  pub short : length s ≤ 2 ^ 62
  pub converted : IsConverted p s (verdict_in t) before after
  pub probes : MostProbes silent p s t.most_probes

-- Reading ends after the bytes u. They decide no token that is rejected, and what is due for the
-- tokens that they decide is written.
pub record ReadsNoMore (p : Profile) (u : List ℕ) (before after : Option (List ℕ)) : Type 0 where
  pub passes : (read p (decided u)).fault ≡ None
  pub appended : Appends before after (due p (decided u))

-- How a conversion of a slice fails.
-- - `refused`: by the fault of the text. Its bytes before place 2^62 show it.
-- - `unwritten`: a write failed at one of the tokens that these bytes show.
-- - `too_long`: the slice has a byte at place 2^62, and those before it were read.
pub data FailsOn (p : Profile) (text : List ℕ) (before after : Option (List ℕ)) : Fault → Type 0 where
  refused : (f : Fault) → IsRefused p text f → IsConverted p text (is_refused f) before after → FailsOn p text before after f
  unwritten : (tokens : List Token) (at : ℕ) → AreShown text tokens → StopsWriting p [] tokens at before after
      → FailsOn p text before after (record { at = at; reason = WriteFault })
  too_long : (u rest : List ℕ) → text ≡ u ++ rest → length u ≡ 2 ^ 62 → 0 < length rest → ReadsNoMore p u before after
      → FailsOn p text before after (record { at = length u; reason = InputTooLong })

-- what a conversion of a slice results in: the text is converted, or the conversion fails
abbrev pub AfterSlice : (silent : Bool) → Profile → List ℕ → Result Totals Fault → Option (List ℕ) → Option (List ℕ) → Type 0
AfterSlice silent p text (Ok t) before after = IsTotalled silent p text t before after
AfterSlice silent p text (Err f) before after = FailsOn p text before after f

-- What `convert_slice` does to its sink.
abbrev pub ConvertsSlice : Profile → List ℕ → Result Totals Fault → Device → Type 0
ConvertsSlice p text result sink = AfterSlice false p text result sink.before sink.after

-- the tokens begin with ts
abbrev pub IsTokenPrefix : List Token → List Token → Type 0
IsTokenPrefix ts tokens = (rest : List Token) × (tokens ≡ ts ++ rest)

-- The bytes that a source has given decide the tokens ts.
-- - `so_far`: some of those before place 2^62, from the first on, decide them.
-- - `at_end`: the source has ended, its text has no byte at that place, and its tokens begin with
--   ts.
pub data Decides (left_old left_new : Option (List ℕ)) (ts : List Token) : Type 0 where
  so_far : (u more : List ℕ) → Consumes left_old left_new (u ++ more) → length u ≤ 2 ^ 62 → AreNext u ts → Decides left_old left_new ts
  at_end : (u : List ℕ) → Consumes left_old left_new u → length u ≤ 2 ^ 62 → IfSome left_old (λ s. s ≡ u) → IsTokenPrefix ts (tokens_of u)
      → Decides left_old left_new ts

-- How a conversion fails.
-- - `refused`: by the fault of the input. Its bytes before place 2^62 show it.
-- - `unread`: a read failed, after the bytes u.
-- - `unwritten`: a write failed at one of the tokens that the bytes read by then decide.
-- - `too_long`: the source has given a byte at place 2^62, and those before it were read.
pub data Fails (p : Profile) (left_old left_new : Option (List ℕ)) (before after : Option (List ℕ)) : Fault → Type 0 where
  refused : (f : Fault) → IfSome left_old (λ s. IsRefused p s f × IsConverted p s (is_refused f) before after) → Fails p left_old left_new before after f
  unread : (u : List ℕ) → Consumes left_old left_new u → length u ≤ 2 ^ 62 → ReadsNoMore p u before after
      → Fails p left_old left_new before after (record { at = length u; reason = ReadFault })
  unwritten : (tokens : List Token) (at : ℕ) → Decides left_old left_new tokens → StopsWriting p [] tokens at before after
      → Fails p left_old left_new before after (record { at = at; reason = WriteFault })
  too_long : (u rest : List ℕ) → Consumes left_old left_new (u ++ rest) → length u ≡ 2 ^ 62 → 0 < length rest → ReadsNoMore p u before after
      → Fails p left_old left_new before after (record { at = length u; reason = InputTooLong })

-- What a conversion results in: what the source had left is converted, up to its end, or the
-- conversion fails.
abbrev pub AfterConversion : (silent : Bool) → Profile → Option (List ℕ) → Option (List ℕ) → Result Totals Fault → Option (List ℕ) → Option (List ℕ) → Type 0
AfterConversion silent p left_old left_new (Ok t) before after = IfSome left_old (λ s. IsTotalled silent p s t before after)
AfterConversion silent p left_old left_new (Err f) before after = Fails p left_old left_new before after f

-- What `convert` does to its source and its sink.
abbrev pub Converts : Profile → Device → Result Totals Fault → Device → Type 0
Converts p source result sink =
    AfterConversion false p source.before source.after result sink.before sink.after

-- What `check` returns: what `convert` does, except that it writes nothing and no write can fail.
abbrev pub Checks : Profile → Device → Result Totals Fault → Type 0
Checks p source result = AfterConversion true p source.before source.after result None None × NoWriteFails result

-- What `check_slice` returns for a text.
abbrev pub ChecksSlice : Profile → List ℕ → Result Totals Fault → Type 0
ChecksSlice p text result = AfterSlice true p text result None None × NoWriteFails result

-- If the reason is `ReadFault`, the source counts one failure more. If it is `WriteFault`, the sink
-- does. No other count rises.
abbrev pub CountsDevices : Reason → ℕ → ℕ → ℕ → ℕ → Type 0
CountsDevices ReadFault source_old source_new sink_old sink_new = (source_new ≡ one_more source_old) × (sink_new ≡ sink_old)
CountsDevices WriteFault source_old source_new sink_old sink_new = (source_new ≡ source_old) × (sink_new ≡ one_more sink_old)
CountsDevices _ source_old source_new sink_old sink_new = (source_new ≡ source_old) × (sink_new ≡ sink_old)

-- the same for a result: without a fault no count rises
abbrev pub CountsResult : {A : Type 0} → Result A Fault → Device → Device → Type 0
CountsResult (Ok x) source sink = IsStill source × IsStill sink
CountsResult (Err f) source sink =
    CountsDevices f.reason source.failures source.failures_after sink.failures sink.failures_after

-- How a conversion ends after the bytes u, which are then the whole input: all tokens were read, or
-- reading stopped.
abbrev pub AfterEnd : (silent : Bool) → Profile → List ℕ → List Token → Result Totals Fault → Option (List ℕ) → Option (List ℕ) → Type 0
AfterEnd silent p u given (Ok t) before after = (verdict p u ≡ verdict_in t) × MostProbes silent p u t.most_probes × Gains p given (tokens_of u) before after
AfterEnd silent p u given (Err f) before after = Stops p given (tokens_of u) before after f

-- What the end of the input does to a converter and its sink.
abbrev pub Concludes : Converter → Result Totals Fault → Device → Type 0
Concludes old result sink =
    (p : Profile) (u : List ℕ) (given : List Token)
    → Stands p old u None given → AfterEnd old.reading.writing.is_silent p u given result sink.before sink.after
