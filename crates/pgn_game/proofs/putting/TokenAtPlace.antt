-- A token at its place: what taking it leaves, and a token of movetext is one of any stage.
use Rattle.pgn_game.proofs.Words.{Agrees, ◌≡◌, ℕ, Bool, true, false, Result, Kind, Marker, Reason, GameState, Stage, Between, HoldsText, Part, Next, Leads, Finished, More, Device, EntersMovetext, Keeps, TakesMarker, CountsWrites, Ok, Err, inl, inr, refl, rules}
use Rattle.pgn_game.specs.steps.TokenTaken.{TakesAt, TakesEntryPlaced, TakesPlaced}
use Rattle.pgn_game.specs.steps.GameState.{expected_of}

-- ---- the place of the marker is stored

text_placed : (new : GameState) (at : ℕ) (part : Part) (stage : Stage) → HoldsText stage new part → HoldsText stage (record new { marker_at = at }) part
text_placed new at part stage h = search rules

leads_placed : (nx : Next) (new : GameState) (at : ℕ) → Leads nx Finished new → Leads nx Finished (record new { marker_at = at })
leads_placed nx new at h = search (rules, text_placed)

pub marker_placed : (old : GameState) (marker : Marker) (new : GameState) (at : ℕ) (d : Device) → TakesMarker old marker new (Ok tt) d
    → TakesMarker old marker (record new { marker_at = at }) (Ok tt) d
marker_placed old marker new at d takes = search (rules, leads_placed)

-- ---- a token that enters movetext

module _ (old ready new : GameState) (k : Kind) (at : ℕ) (d : Device) (enters : EntersMovetext old k ready) where
  same_expected : expected_of ready ≡ expected_of old
  same_expected = rw (enters.profile, enters.writing) refl

  pub entered : (r : Result Bool Reason) → TakesEntryPlaced ready k at new r d → TakesPlaced old k at new r d
  entered (Ok true) ends =
      record {
        takes = enters.takes new (Ok Finished) d ends.takes;
        place = ends.place;
        text = ends.text;
        is = ends.is;
        expected = rw same_expected at ends.expected;
      }
  entered (Ok false) takes = enters.takes new (Ok More) d takes
  entered (Err reason) (inl (takes, expected)) = inl (enters.takes new (Err reason) d takes, rw same_expected at expected)
  entered (Err reason) (inr another) = search (rules, same_expected)

-- ---- what any result of it leaves

pub at_keeps : (IsOf : Part → Type 0) (old : GameState) (k : Kind) (at : ℕ) (new : GameState) (taken : Result Bool Reason) (d : Device) → TakesAt old IsOf k at new taken d → Keeps old new
at_keeps IsOf old k at new taken d h1 = search rules

pub placed_keeps : (old : GameState) (k : Kind) (at : ℕ) (new : GameState) (taken : Result Bool Reason) (d : Device) → TakesPlaced old k at new taken d → Keeps old new
placed_keeps old k at new taken d takes = at_keeps (Agrees old) old k at new taken d takes

pub placed_between : (old : GameState) (k : Kind) (at : ℕ) (new : GameState) (taken : Result Bool Reason) (d : Device) → TakesPlaced old k at new taken d
    → taken ≡ Ok true → new.stage ≡ Between
placed_between old k at new taken d h1 is = search rules

pub placed_counts : (old : GameState) (k : Kind) (at : ℕ) (new : GameState) (reason : Reason) (d : Device) → TakesPlaced old k at new (Err reason) d
    → CountsWrites (Err reason) d
placed_counts old k at new reason d h1 = search rules
