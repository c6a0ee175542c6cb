-- **Definition**: the laws of an input that is the same at both readings.
-- Letters: p is the profile, s a text, m a placed marker, ms are placed markers, f is a comparison,
-- t are the totals. `first` and `second` are the two sources, and ts the tokens that `first` has
-- given. u are the bytes that a source has given before it is read no further, as after a failed
-- read, and x the bytes after them. `sink` is the sink before the call and after it.
use Rattle.std.specs.Prelude.{◌≡◌, ℕ, false, List, [], ◌∷◌, ◌++◌, take, None}
use Rattle.pgn_layout.specs.Device.{Device}
use Rattle.pgn_lexer.specs.Tokens.{Token}
use Rattle.pgn_lexer.specs.TokensOf.{tokens_of}
use Rattle.pgn_lexer.specs.Decided.{decided}
use Rattle.pgn_game.specs.declared.conversion.Totals.{Totals}
use Rattle.pgn_game.specs.games.Profile.{Profile, takes_the_marker}
use Rattle.pgn_game.specs.games.Progress.{due, output, verdict}
use Rattle.pgn_game.specs.public.Checked.{PlacedMarker, Comparison, compared, written_by, checked_output, checked_verdict}
use Rattle.pgn_game.specs.public.Conversion.{IsTotalled}
use Rattle.pgn_game.specs.public.CheckedConversion.{AreTotalled}
use Rattle.pgn_game.specs.laws.Laws.{IsPrefix}

-- If both readings give the same text, its verdict and its output are those of one reading.
abbrev pub EqualReadings : Type 0
EqualReadings = (p : Profile) (s : List ℕ) → p.missing_result ≡ takes_the_marker
    → (checked_verdict p s s ≡ verdict p s) × (checked_output p s s ≡ output p s)

-- The totals if both readings give the same text, and it has no fault. The first reading writes
-- nothing, and tries pairs only to find moves.
-- - `most`: the most pairs tried are exactly those of the second reading.
-- - `totalled`: the totals are those of one reading that writes.
pub record EqualTotals : Type 0 where
  pub most : (p : Profile) (s : List ℕ) (t : Totals) (sink : Device) → p.missing_result ≡ takes_the_marker
      → (both : AreTotalled p s s t sink) → t.most_probes ≡ both.probes.tried.most_of_second
  pub totalled : (p : Profile) (s : List ℕ) (t : Totals) (sink : Device) → p.missing_result ≡ takes_the_marker
      → AreTotalled p s s t sink → IsTotalled false p s t sink.before sink.after

-- The comparison shows no difference, no marker is still to come, and what is written by it is this
-- text.
pub record AreWritten (p : Profile) (f : Comparison) (text : List ℕ) : Type 0 where
  pub fault : f.fault ≡ None
  pub no_marker_left : f.markers_left ≡ []
  pub written : written_by p f ≡ text

-- The comparison shows no difference. What is written by it begins with `front`, and is a prefix of
-- `whole`.
pub record AreWrittenWithin (p : Profile) (f : Comparison) (front whole : List ℕ) : Type 0 where
  pub fault : f.fault ≡ None
  pub least : IsPrefix front (written_by p f)
  pub most : IsPrefix (written_by p f) whole

-- What is written if both sources give the same text, but one is read no further or a write fails.
-- - `first_stops`: `first` gives u alone. It is what one reading has written after u.
-- - `second_stops`: `second` gives u alone, and a marker of ts is still to come. It begins with
--   what one reading has written after u, and is a prefix of the output of the text.
-- - `write_fails`: a write fails at a token of `second`. It is a prefix of the output of the text.
pub record InterruptedReadings : Type 0 where
  pub first_stops : (p : Profile) (u x : List ℕ) → p.missing_result ≡ takes_the_marker
      → AreWritten p (compared p (decided u) (tokens_of (u ++ x))) (due p (decided u))
  pub second_stops : (p : Profile) (u x : List ℕ) (ts rest : List Token) (m : PlacedMarker) (ms : List PlacedMarker) → p.missing_result ≡ takes_the_marker
      → tokens_of (u ++ x) ≡ ts ++ rest → (compared p ts (decided u)).markers_left ≡ m ∷ ms
      → AreWrittenWithin p (compared p ts (decided u)) (due p (decided u)) (output p (u ++ x))
  pub write_fails : (p : Profile) (s : List ℕ) (ts rest front after : List Token) (token : Token) (count : ℕ) → p.missing_result ≡ takes_the_marker
      → tokens_of s ≡ ts ++ rest → tokens_of s ≡ front ++ token ∷ after
      → IsPrefix (take count (written_by p (compared p ts (front ++ token ∷ [])))) (output p s)
