-- **Definition**: what an input gives that is read twice, as `convert_checked` reads it.
-- It is read from two sources, `first` and `second`. The games of `second` are written, each after
-- `first` has read a game to that marker. A missing Result takes the marker.
-- Letters: p is the profile, b the progress, g a game, t a token, m a placed marker, ms are placed
-- markers. s is the text of `first` and r that of `second`, ts are tokens of `first` and us tokens
-- of `second`. f is a comparison.
use Rattle.std.specs.Prelude.{ℕ, ◌==◌, Bool, true, false, ◌||◌, ◌&&◌, not, bytes_eq, is_some, List, [], ◌∷◌, ◌++◌, Option, None, Some}
use Rattle.pgn_lexer.specs.Tokens.{Token}
use Rattle.pgn_lexer.specs.TokensOf.{tokens_of}
use Rattle.pgn_game.specs.declared.mode.Mode.{Mode}
use Rattle.pgn_game.specs.declared.reason.Reason.TheVariants.{Changed}
use Rattle.pgn_game.specs.declared.reason.Fault.{Fault}
use Rattle.pgn_game.specs.games.Profile.{Profile, counts_as, takes_the_marker}
use Rattle.pgn_game.specs.games.Game.{Part}
use Rattle.pgn_game.specs.games.FaultTable.{refusal, is_end}
use Rattle.pgn_game.specs.export.Text.{text_of, torn}
use Rattle.pgn_game.specs.games.Progress.{Next, going, whole, next, Progress, no_progress, progress_after, read, Verdict, verdict_of}

-- the profile of both readings, for at most so many pairs of a game, and variations at most so deep
abbrev pub checked_profile : ℕ → ℕ → Mode → Profile
checked_profile most depth mode = record { tags = most; depth = depth; mode = mode; missing_result = takes_the_marker }

-- the marker that finishes a game, and its place
pub record PlacedMarker : Type 0 where
  pub text : List ℕ
  pub at : ℕ

-- the placed marker of a token, which is at this place, if it finishes a game
abbrev pub marker_at : ℕ → Next → List PlacedMarker
marker_at at (going part) = []
marker_at at (whole g) = record { text = g.marker; at = at } ∷ []

-- the markers of the games that tokens are read into, up to the first token that is rejected
abbrev pub markers_from : Profile → Progress → List Token → List PlacedMarker
markers_from p b [] = []
markers_from p b (t ∷ ts) =
    elim (refusal p b.part t.kind) [
      | Some reason ↦ []
      | None ↦ marker_at t.at (next b.part t.kind) ++ markers_from p (progress_after b t) ts
    ]

-- the markers of tokens that are read from the start on
abbrev pub markers : Profile → List Token → List PlacedMarker
markers p ts = markers_from p no_progress ts

-- a token that shows that `second` is not at the marker m: it is the end, or it finishes a game by
-- another marker, or by the same one at another place
abbrev pub is_other : PlacedMarker → Next → Token → Bool
is_other m (going part) t = is_end t.kind
is_other m (whole g) t = not (bytes_eq g.marker m.text && (t.at == m.at))

-- a token of `second` at which the inputs differ: it is rejected, or it shows that `second` is not
-- at the marker m
abbrev pub is_changed : Profile → PlacedMarker → Part → Token → Bool
is_changed p m part t = is_some (refusal p part t.kind) || is_other m (next part t.kind) t

-- How far `second` is read: its progress, the markers of `first` that are still to come, and the
-- fault of the token at which the inputs differ, if one does.
pub record Comparison : Type 0 where
  pub progress : Progress
  pub markers_left : List PlacedMarker
  pub fault : Option Fault

-- the markers that are left after a token
abbrev pub markers_after : Next → PlacedMarker → List PlacedMarker → List PlacedMarker
markers_after (going part) m ms = m ∷ ms
markers_after (whole g) m ms = ms

-- The tokens of `second` are read up to the last marker, or up to the first token at which the
-- inputs differ, or all of them.
abbrev pub compared_from : Profile → List PlacedMarker → Progress → List Token → Comparison
compared_from p ms b [] = record { progress = b; markers_left = ms; fault = None }
compared_from p [] b (t ∷ ts) = record { progress = b; markers_left = []; fault = None }
compared_from p (m ∷ ms) b (t ∷ ts) =
    elim (is_changed p m b.part t) [
      | true ↦ record { progress = b; markers_left = m ∷ ms; fault = Some (record { at = t.at; reason = Changed }) }
      | false ↦ compared_from p (markers_after (next b.part t.kind) m ms) (progress_after b t) ts
    ]

-- the tokens us of `second`, compared with the markers of the tokens ts of `first`
abbrev pub compared : Profile → List Token → List Token → Comparison
compared p ts us = compared_from p (markers p ts) no_progress us

-- the same profile, in which a missing Result counts as this marker
abbrev pub with_marker : Profile → PlacedMarker → Profile
with_marker p m = record { tags = p.tags; depth = p.depth; mode = p.mode; missing_result = counts_as m.text }

-- What is written of the current game of `second`: its tag section and all lines but the last. A
-- missing Result counts as the marker that `first` has for this game. After the last marker nothing
-- is written.
abbrev pub torn_before : Profile → List PlacedMarker → Part → List ℕ
torn_before p [] part = []
torn_before p (m ∷ ms) part = torn (with_marker p m) part

-- what is written by a comparison: the games of `second` that are whole, and of the current game
-- what `torn_before` says
abbrev pub written_by : Profile → Comparison → List ℕ
written_by p f = text_of p f.progress.games ++ torn_before p f.markers_left f.progress.part

-- The fault of a difference comes before that of `first`: each game is compared before `first` is
-- read further.
abbrev pub earlier_fault : Option Fault → Option Fault → Option Fault
earlier_fault (Some changed) other = Some changed
earlier_fault None other = other

-- the verdict on two texts: a fault, or the numbers of the games that are written
abbrev pub checked_verdict : Profile → List ℕ → List ℕ → Verdict
checked_verdict p s r =
    let f = compared p (tokens_of s) (tokens_of r) in
    verdict_of (record { progress = f.progress; fault = earlier_fault f.fault (read p (tokens_of s)).fault })

-- the output for two texts
abbrev pub checked_output : Profile → List ℕ → List ℕ → List ℕ
checked_output p s r = written_by p (compared p (tokens_of s) (tokens_of r))
