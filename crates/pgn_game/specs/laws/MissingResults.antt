-- **Definition**: the law of a missing Result that counts as a text, beside one that takes the
-- marker of its game.
-- Letters: p is the profile in which it takes the marker, and ts are tokens.
use Rattle.std.specs.Prelude.{◌≡◌, ℕ, Bool, true, false, IsTrue, List, [], ◌∷◌, ◌++◌, bytes_eq, Option, None, Some}
use Rattle.std.specs.List.{list_all}
use Rattle.pgn_lexer.specs.Tokens.{Token}
use Rattle.pgn_game.specs.declared.marker.Marker.{Marker}
use Rattle.pgn_game.specs.declared.reason.Fault.{Fault}
use Rattle.pgn_game.specs.declared.reason.Reason.{Reason}
use Rattle.pgn_game.specs.declared.reason.Reason.TheVariants.{ResultDiffers}
use Rattle.pgn_game.specs.games.Markers.{marker_text}
use Rattle.pgn_game.specs.games.Profile.{Profile, counting, takes_the_marker}
use Rattle.pgn_game.specs.games.FaultTable.{marker_of}
use Rattle.pgn_game.specs.games.Game.{Game}
use Rattle.pgn_game.specs.export.Text.{text_of}
use Rattle.pgn_game.specs.games.Progress.{read}

-- the reason that a marker is not the Result
abbrev pub is_about_result : Reason → Bool
is_about_result ResultDiffers = true
is_about_result _ = false

-- the fault is that a marker is not the Result
abbrev pub rejects_marker : Option Fault → Bool
rejects_marker None = false
rejects_marker (Some f) = is_about_result f.reason

-- Reading by the profile in which a missing Result counts as this text gives the same games, the
-- same fault and the same export text.
pub record IsReadAlike (p : Profile) (text : List ℕ) (ts : List Token) : Type 0 where
  pub same : read p ts ≡ read (counting p text) ts
  pub written : text_of p (read p ts).progress.games
      ≡ text_of (counting p text) (read (counting p text) ts).progress.games

-- The token at this place is a marker. Two readings are compared: in one a missing Result takes the
-- marker, in the other it counts as this marker. They are alike for the tokens up to this one. If
-- the second finishes no game, they are alike for all tokens.
pub record IsReadByItsMarker (p : Profile) (ts : List Token) (at : ℕ) : Type 0 where
  pub front : List Token
  pub token : Token
  pub rest : List Token
  pub cut : ts ≡ front ++ token ∷ rest
  pub place : token.at ≡ at
  pub marker : Marker
  pub is_marker : marker_of token.kind ≡ Some (marker_text marker)
  pub up_to_it : IsReadAlike p (marker_text marker) (front ++ token ∷ [])
  pub rejected : (read (counting p (marker_text marker)) ts).progress.games ≡ []
      → IsReadAlike p (marker_text marker) ts

-- each game ends with this marker
abbrev pub all_end_with : List ℕ → List Game → Bool
all_end_with text games = list_all (λ (g : Game). bytes_eq g.marker text) games

-- Tokens that are read by a profile in which a missing Result counts as a text.
-- - `alike`: if no marker is rejected because it is not the Result, they are read alike.
-- - `by_its_marker`: if one is, before a game was finished, `IsReadByItsMarker` holds at its place.
-- - `if_all_end_with_it`: if no token is rejected where a missing Result takes the marker, and each
--   game ends with this text, they are read alike.
pub record MissingResults : Type 0 where
  pub alike : (p : Profile) (text : List ℕ) (ts : List Token) → p.missing_result ≡ takes_the_marker
      → rejects_marker (read (counting p text) ts).fault ≡ false → IsReadAlike p text ts
  pub by_its_marker : (p : Profile) (text : List ℕ) (ts : List Token) (at : ℕ) → p.missing_result ≡ takes_the_marker
      → (read (counting p text) ts).fault ≡ Some (record { at = at; reason = ResultDiffers })
      → (read (counting p text) ts).progress.games ≡ [] → IsReadByItsMarker p ts at
  pub if_all_end_with_it : (p : Profile) (text : List ℕ) (ts : List Token) → p.missing_result ≡ takes_the_marker
      → (read p ts).fault ≡ None → IsTrue (all_end_with text (read p ts).progress.games) → IsReadAlike p text ts
