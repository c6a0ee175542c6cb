-- **Definition**: what a conversion does whose input is read twice, from two sources.
-- Letters: p is the profile, s the text of `first`, r the text of `second`, v a verdict, t are the
-- totals, f is a fault, m a placed marker, ms are placed markers. u are the bytes that a source has
-- given so far, ts are tokens of `first`, and us tokens of `second`. n is the most pairs of an
-- origin and a target that were tried for one move. `first`, `second` and `sink` are the devices,
-- before the call and after it.
use Rattle.std.specs.Prelude.{◌≡◌, ℕ, ◌^◌, ◌<◌, ◌≤◌, ◌⊎◌, max, true, false, IsTrue, List, [], ◌∷◌, ◌++◌, length, take, None, Some, Result, Ok, Err, IfSome}
use Rattle.std.specs.Io.KnownBytes.{Appends, Consumes}
use Rattle.pgn_layout.specs.Device.{Device, FailsOnce, IsStill}
use Rattle.pgn_lexer.specs.Tokens.{Token}
use Rattle.pgn_lexer.specs.TokensOf.{tokens_of}
use Rattle.pgn_lexer.specs.Decided.{decided}
use Rattle.pgn_game.specs.declared.reason.Reason.{Reason}
use Rattle.pgn_game.specs.declared.reason.Reason.TheVariants.{ReadFault, WriteFault, InputTooLong, Changed}
use Rattle.pgn_game.specs.declared.reason.Fault.{Fault}
use Rattle.pgn_game.specs.declared.conversion.Totals.{Totals}
use Rattle.pgn_game.specs.games.Profile.{Profile}
use Rattle.pgn_game.specs.games.Progress.{read, Verdict, refused as is_refused}
use Rattle.pgn_game.specs.public.Conversion.{Decides, verdict_in}
use Rattle.pgn_game.specs.public.ConverterCalls.{AreShown, play_moves}
use Rattle.pgn_game.specs.public.MostTried.{MostTried}
use Rattle.pgn_game.specs.public.Checked.{PlacedMarker, compared, written_by, earlier_fault, checked_verdict, checked_output}

-- the sink has taken this text in the call, and no more
abbrev pub HasTaken : Device → List ℕ → Type 0
HasTaken sink text = Appends sink.before sink.after text

-- the verdict on both texts is v, and their output is written
abbrev pub AreConverted : Profile → List ℕ → List ℕ → Verdict → Device → Type 0
AreConverted p s r v sink = (checked_verdict p s r ≡ v) × HasTaken sink (checked_output p s r)

-- n is the most pairs tried for one move in both readings. The first writes nothing, and tries
-- pairs only to find moves. All tokens of `first` are read. Of those of `second` the tokens `front`
-- are read: none is rejected, and they make the progress that the comparison makes.
pub record MostOfBoth (p : Profile) (ts us : List Token) (n : ℕ) : Type 0 where
  pub front : List Token
  pub rest : List Token
  pub cut : us ≡ front ++ rest
  pub passes : (read p front).fault ≡ None
  pub same : (read p front).progress ≡ (compared p ts us).progress
  pub most_of_first : ℕ
  pub most_of_second : ℕ
  pub first_tried : MostTried true p ts most_of_first
  pub second_tried : MostTried false p front most_of_second
  pub greater : n ≡ max most_of_first most_of_second

-- That number is at most 1,040, and at least 1 if a game that is written has a move.
pub record ProbesBoth (p : Profile) (s r : List ℕ) (n : ℕ) : Type 0 where
  pub most : n ≤ 1040
  pub some : IsTrue (play_moves (compared p (tokens_of s) (tokens_of r)).progress.games) → 0 < n
  pub tried : MostOfBoth p (tokens_of s) (tokens_of r) n

-- The fault f is the first difference, or if there is none the fault of `first`. The tokens ts of
-- `first` and us of `second` have it, and the bytes of each text before place 2^62 show them.
-- `AreConverted` says that the whole texts have the same fault.
pub record AreRefused (p : Profile) (s r : List ℕ) (f : Fault) : Type 0 where
  pub ts : List Token
  pub us : List Token
  pub first_shown : AreShown s ts
  pub second_shown : AreShown r us
  pub fault : earlier_fault (compared p ts us).fault (read p ts).fault ≡ Some f

-- Both texts are converted, with the totals t. The text of `first` has at most 2^62 bytes. In the
-- text of `second` the bytes before place 2^62 show the tokens us, which match all markers of
-- `first`.
pub record AreTotalled (p : Profile) (s r : List ℕ) (t : Totals) (sink : Device) : Type 0 where
  pub short : length s ≤ 2 ^ 62
  pub us : List Token
  pub second_shown : AreShown r us
  pub no_marker_left : (compared p (tokens_of s) us).markers_left ≡ []
  pub converted : AreConverted p s r (verdict_in t) sink
  pub probes : ProbesBoth p s r t.most_probes

-- The tokens us of `second` match all markers of the tokens ts of `first`, without a difference.
-- The games up to the last marker are written.
pub record MatchesAllMarkers (p : Profile) (ts us : List Token) (sink : Device) : Type 0 where
  pub fault : (compared p ts us).fault ≡ None
  pub no_marker_left : (compared p ts us).markers_left ≡ []
  pub appended : HasTaken sink (written_by p (compared p ts us))

-- `first` is read no further than the bytes u, and no token that they decide is rejected. The text
-- of `second` matches all markers of these tokens, and its games up to the last marker are written.
pub record FirstStops (p : Profile) (u : List ℕ) (second sink : Device) : Type 0 where
  pub passes : (read p (decided u)).fault ≡ None
  pub matched : IfSome second.before (λ r. MatchesAllMarkers p (decided u) (tokens_of r) sink)

-- `second` is read no further than the bytes u. The tokens that they decide show no difference from
-- the markers of `tokens`, which the bytes that `first` has given decide. One of these markers is
-- still to come. What is due for the tokens of `second` is written.
pub record SecondStops (p : Profile) (first : Device) (u : List ℕ) (sink : Device) : Type 0 where
  pub tokens : List Token
  pub decided_by : Decides first.before first.after tokens
  pub fault : (compared p tokens (decided u)).fault ≡ None
  pub next_marker : (m : PlacedMarker) × (ms : List PlacedMarker) × ((compared p tokens (decided u)).markers_left ≡ m ∷ ms)
  pub appended : HasTaken sink (written_by p (compared p tokens (decided u)))

-- A write failed at `token` of `second`, which is at the place `at`. The bytes of `second` before
-- place 2^62 show the tokens up to it. These show no difference from the markers of `tokens`, which
-- the bytes that `first` has given decide. Of what is due for them a prefix of `count` bytes is
-- written: not all, but at least what is due for those before `token`.
pub record WriteStops (p : Profile) (first : Device) (r : List ℕ) (at : ℕ) (sink : Device) : Type 0 where
  pub tokens : List Token
  pub decided_by : Decides first.before first.after tokens
  pub front : List Token
  pub token : Token
  pub shown : AreShown r (front ++ token ∷ [])
  pub place : token.at ≡ at
  pub fault : (compared p tokens (front ++ token ∷ [])).fault ≡ None
  pub count : ℕ
  pub least : length (written_by p (compared p tokens front)) ≤ count
  pub short : count < length (written_by p (compared p tokens (front ++ token ∷ [])))
  pub appended : HasTaken sink (take count (written_by p (compared p tokens (front ++ token ∷ []))))

-- How a conversion fails.
-- - `refused`: by the verdict on the texts, which is a fault of `first` or the first difference.
--   Their bytes before place 2^62 show it.
-- - `first_unread`, `second_unread`: a read of this source failed, after the bytes u.
-- - `first_too_long`: `first` has given a byte at place 2^62.
-- - `second_too_long`: `second` has given one. That is a difference, since the marker to come is
--   before this place in `first`.
-- - `unwritten`: a write failed.
pub data TwoReadingsFail (p : Profile) (first second sink : Device) : Fault → Type 0 where
  refused : (f : Fault) → IfSome first.before (λ s. IfSome second.before (λ r. AreRefused p s r f × AreConverted p s r (is_refused f) sink))
      → TwoReadingsFail p first second sink f
  first_unread : (u : List ℕ) → Consumes first.before first.after u → length u ≤ 2 ^ 62 → FailsOnce first → FirstStops p u second sink
      → TwoReadingsFail p first second sink (record { at = length u; reason = ReadFault })
  first_too_long : (u rest : List ℕ) → Consumes first.before first.after (u ++ rest) → length u ≡ 2 ^ 62 → 0 < length rest → FirstStops p u second sink
      → TwoReadingsFail p first second sink (record { at = length u; reason = InputTooLong })
  second_unread : (u : List ℕ) → Consumes second.before second.after u → length u ≤ 2 ^ 62 → FailsOnce second → SecondStops p first u sink
      → TwoReadingsFail p first second sink (record { at = length u; reason = ReadFault })
  second_too_long : (u rest : List ℕ) → Consumes second.before second.after (u ++ rest) → length u ≡ 2 ^ 62 → 0 < length rest → SecondStops p first u sink
      → TwoReadingsFail p first second sink (record { at = length u; reason = Changed })
  unwritten : (at : ℕ) → IfSome second.before (λ r. WriteStops p first r at sink)
      → TwoReadingsFail p first second sink (record { at = at; reason = WriteFault })

-- What a conversion of two sources results in. Without a fault it converts what they have left,
-- `first` up to its end.
abbrev pub TwoReadingsConvert : Profile → (first second sink : Device) → Result Totals Fault → Type 0
TwoReadingsConvert p first second sink (Ok t) = IfSome first.before (λ s. IfSome second.before (λ r. AreTotalled p s r t sink))
TwoReadingsConvert p first second sink (Err f) = TwoReadingsFail p first second sink f

-- one of two devices counts one failure more, and the other none
abbrev pub OneFails : (first second : Device) → Type 0
OneFails first second = (FailsOnce first × IsStill second) ⊎ (IsStill first × FailsOnce second)

-- If the reason is `ReadFault`, one of the sources counts one failure more. If it is `WriteFault`,
-- the sink does. No other count rises.
abbrev pub CountsThree : Reason → (first second sink : Device) → Type 0
CountsThree ReadFault first second sink = OneFails first second × IsStill sink
CountsThree WriteFault first second sink = IsStill first × IsStill second × FailsOnce sink
CountsThree _ first second sink = IsStill first × IsStill second × IsStill sink

-- the same for a result: without a fault no count rises
abbrev pub TwoReadingsCount : (first second sink : Device) → Result Totals Fault → Type 0
TwoReadingsCount first second sink (Ok t) = IsStill first × IsStill second × IsStill sink
TwoReadingsCount first second sink (Err f) = CountsThree f.reason first second sink
