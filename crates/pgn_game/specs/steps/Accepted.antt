-- **Bookkeeping**: what a reader alone makes of a token, of which nothing is written.
-- Letters: k is the kind of a token, e what it means, r the result of a call. `old` and `new` are
-- the reader before a call and after it.
use Rattle.std.specs.Prelude.{◌≡◌, false, IsTrue, List, [], ◌∷◌, ◌++◌, map, Option, None, Some, Result, Ok, Err}
use Rattle.pgn_layout.specs.Lines.{IsToken}
use Rattle.pgn_lexer.specs.Tokens.{Kind}
use Rattle.pgn_game.specs.declared.event.Event.{Event}
use Rattle.pgn_game.specs.declared.event.Event.TheVariants as events
use Rattle.pgn_game.specs.declared.mode.Written.TheVariants.{Nothing}
use Rattle.pgn_game.specs.declared.reason.Reason.{Reason}
use Rattle.pgn_game.specs.declared.writer.Writer.{Writer}
use Rattle.pgn_game.specs.public.Given.{Given, item, marker, given_of_next, given_of_part, given_with}
use Rattle.pgn_game.specs.games.Game.{Part}
use Rattle.pgn_game.specs.games.Levels.{start_of}
use Rattle.pgn_game.specs.games.Markers.{marker_text}
use Rattle.pgn_game.specs.games.Progress.{next}
use Rattle.pgn_game.specs.steps.Judged.{IsPlayed, game_by, items_meant}
use Rattle.pgn_game.specs.steps.Movetext.{HoldsItems}
use Rattle.pgn_game.specs.steps.TokenTaken.{TakesEntry, TakesToken, unused}
use Rattle.pgn_game.specs.steps.GameState.{Accepted, Agrees, Finished, More, GameState}
use Rattle.pgn_game.specs.steps.TokenInMovetext.{IsEntry, has_whole_pairs}

-- a writer that writes nothing
abbrev pub no_writer : Writer
no_writer = record { line = []; written = Nothing; announced = None; is_after_move = false }

-- the game of a reader of which nothing is written
abbrev pub without_writer : GameState → GameState
without_writer reading = game_by no_writer reading

-- the answer of that game: a marker finishes it
abbrev pub answer_of : Result (Option Event) Reason → Result Accepted Reason
answer_of (Ok (Some (events.Marker m))) = Ok Finished
answer_of (Ok event) = Ok More
answer_of (Err reason) = Err reason

-- what is given for a token of movetext that means this
abbrev pub given_for : Event → List Given
given_for (events.Marker m) = marker (marker_text m) ∷ []
given_for e = map item (items_meant e)

-- A token after this part belongs to movetext, and means this. The reader holds the pairs of the
-- part, and its items with those of the token.
pub record MeansItems (part : Part) (k : Kind) (new : GameState) (e : Event) : Type 0 where
  pub given : given_of_next (next part k) ≡ given_with part.pairs part.items ++ given_for e
  pub pairs : new.tags.held ≡ part.pairs
  pub text : HoldsItems None (start_of part.pairs) (part.items ++ items_meant e) new.text []

-- It means this, or it is outside movetext, where nothing is given.
abbrev pub Gives : Part → Kind → GameState → Result (Option Event) Reason → Type 0
Gives part k new (Ok None) = (given_of_next (next part k) ≡ []) × (given_of_part part ≡ [])
Gives part k new (Ok (Some e)) = MeansItems part k new e
Gives part k new (Err reason) = Unit {0}

-- A word is a token of the export format, and a move was just played.
abbrev pub IsSoundEvent : GameState → Event → Type 0
IsSoundEvent new (events.Word text) = IsToken text.now
IsSoundEvent new (events.Move m pairs) = IsPlayed new m
IsSoundEvent new _ = Unit {0}

abbrev pub IsSoundIf : GameState → Result (Option Event) Reason → Type 0
IsSoundIf new (Ok (Some e)) = IsSoundEvent new e
IsSoundIf new _ = Unit {0}

-- Where movetext has begun, the pairs are whole.
abbrev pub IsWholeIf : GameState → Result (Option Event) Reason → Type 0
IsWholeIf new (Ok (Some e)) = IsTrue (has_whole_pairs new.stage)
IsWholeIf new _ = Unit {0}

-- What a reader makes of a token, of which nothing is written.
pub record Accepts (old : GameState) (k : Kind) (new : GameState) (r : Result (Option Event) Reason) : Type 0 where
  pub takes : TakesToken (without_writer old) k (without_writer new) (answer_of r) (unused None 0)
  pub gives : (part : Part) → Agrees (without_writer old) part → Gives part k new r
  pub sound : IsSoundIf new r
  pub whole : IsWholeIf new r

-- an event, or an error
abbrev pub some_event : Result Event Reason → Result (Option Event) Reason
some_event (Ok e) = Ok (Some e)
some_event (Err reason) = Err reason

-- what it makes of a token that belongs to movetext
pub record AcceptsEntry (old : GameState) (k : Kind) (new : GameState) (r : Result Event Reason) : Type 0 where
  pub takes : TakesEntry (without_writer old) k (without_writer new) (answer_of (some_event r)) (unused None 0)
  pub gives : (part : Part) → IsEntry (without_writer old) k part → Gives part k new (some_event r)
  pub sound : IsSoundIf new (some_event r)
  pub whole : IsWholeIf new (some_event r)
