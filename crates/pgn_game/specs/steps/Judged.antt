-- **Bookkeeping**: what a reader, which writes nothing, makes of a token, and how a game is seen of
-- its reader and its writer.
-- Letters: k is the kind of a token, e what it means, r the result of a call, w a writer. `old` and
-- `new` are the reader before a call and after it.
--
-- What a reader does is stated of the games of all writers beside it.
use Rattle.std.specs.Prelude.{◌≡◌, ℕ, ◌<◌, ◌≤◌, max, Bool, true, false, IsFalse, IsSomeAnd, IsTrue, List, [], ◌∷◌, length, Option, None, Some, Result, Ok, Err}
use Rattle.chess_rules.specs.declared.position.Move.{Move}
use Rattle.chess_rules.specs.declared.position.Parts.{Parts}
use Rattle.chess_rules.specs.Legal.{legal}
use Rattle.chess_text.specs.San.{disambiguation_pairs}
use Rattle.pgn_layout.specs.Device.{device}
use Rattle.pgn_layout.specs.Lines.{IsToken}
use Rattle.pgn_lexer.specs.Tokens.{Kind}
use Rattle.pgn_game.specs.declared.event.Event.{Event}
use Rattle.pgn_game.specs.declared.event.Event.TheVariants as events
use Rattle.pgn_game.specs.declared.event.Event.TheVariants.{Number, Glyph, CommentOpen, Word, CommentClose, Open, Close}
use Rattle.pgn_game.specs.declared.marker.Marker.{Marker}
use Rattle.pgn_game.specs.declared.reason.Reason.{Reason}
use Rattle.pgn_game.specs.declared.stage.Stage.{Stage}
use Rattle.pgn_game.specs.declared.stage.Stage.TheVariants.{Between, InMovetext}
use Rattle.pgn_game.specs.declared.writer.Writer.{Writer}
use Rattle.pgn_game.specs.public.MostTried.{CostsToFind}
use Rattle.pgn_game.specs.public.Written.{is_nothing, mode_of_written, mode_unless, seen}
use Rattle.pgn_game.specs.export.Text.{is_move, tokens_at}
use Rattle.pgn_game.specs.games.FaultTable.{marker_of}
use Rattle.pgn_game.specs.games.Game as games
use Rattle.pgn_game.specs.games.Game.{Item, Part}
use Rattle.pgn_game.specs.games.Markers.{marker_text}
use Rattle.pgn_game.specs.games.Progress.{going, in_text}
use Rattle.pgn_game.specs.steps.ItemResult.{Annotates, LeavesSink, Plays, PutsMove}
use Rattle.pgn_game.specs.steps.Movetext.{Movetext}
use Rattle.pgn_game.specs.steps.TokenTaken.{TakesEntry, TakesEntryPlaced, TakesOutside, TakesUnwritten, counting_probes, unused}
use Rattle.pgn_game.specs.steps.GameState.{Accepted, GameCall, GameState, Writing, is_outside_the_table}
use Rattle.pgn_game.specs.steps.TokenInMovetext.{IsOpen, may_have_movetext, text_refusal, with_items}

-- The game of a reader and a writer.

abbrev pub is_begun : Stage → Bool
is_begun InMovetext = true
is_begun _ = false

-- whether a move was written last, at this stage of the game: before movetext none was
abbrev pub after_move_at : Stage → Bool → Bool
after_move_at InMovetext is_after_move = is_after_move
after_move_at _ is_after_move = false

abbrev pub writing_of : Writer → Writing
writing_of w =
    record { announced = w.announced; is_silent = is_nothing w.written }

-- the game of a writer, where this says whether a move was written last
abbrev pub game_at : Bool → Writer → GameState → GameState
game_at is_after_move w reader = record reader {
  writing = writing_of w;
  text = record reader.text { is_after_move = is_after_move };
  line = w.line;
}

-- the game of a writer
abbrev pub game_by : Writer → GameState → GameState
game_by w reader = game_at (after_move_at reader.stage w.is_after_move) w reader

-- Outside movetext.

-- a token of a tag pair is taken, or rejected, by a reader whose game is not in movetext yet
pub record JudgesInPair (old : GameState) (k : Kind) (new : GameState) (r : Result Accepted Reason) : Type 0 where
  pub takes : (w : Writer) → TakesUnwritten (game_at false w old) k (game_at false w new) r
  pub before : is_begun new.stage ≡ false

-- the same for a token that may begin movetext, and so belong to it
pub record JudgesBefore (old : GameState) (k : Kind) (new : GameState)
    (r : Option (Result Accepted Reason)) : Type 0 where
  pub takes : (w : Writer) → TakesOutside (game_at false w old) k (game_at false w new) r
  pub before : is_begun new.stage ≡ false

-- movetext has begun neither before the token nor with it, unless it belongs to movetext
abbrev pub IsOutside : Stage → Stage → Option (Result Accepted Reason) → Type 0
IsOutside old new None = Unit {0}
IsOutside old new (Some r) = (is_begun old ≡ false) × (is_begun new ≡ false)

-- a token is taken outside movetext, or it belongs to movetext
pub record JudgesOutside (old : GameState) (k : Kind) (new : GameState)
    (r : Option (Result Accepted Reason)) : Type 0 where
  pub takes : (w : Writer) → TakesOutside (game_by w old) k (game_by w new) r
  pub outside : IsOutside old.stage new.stage r

-- In movetext.

-- the items that a token adds which means this
abbrev pub items_meant : Event → List Item
items_meant Number = []
items_meant (events.Move m pairs) = games.move m ∷ []
items_meant (Glyph n) = games.glyph n ∷ []
items_meant CommentOpen = games.comment_open ∷ []
items_meant (Word text) = games.word text.now ∷ []
items_meant CommentClose = games.comment_close ∷ []
items_meant Open = games.open_variation ∷ []
items_meant Close = games.close_variation ∷ []
items_meant (events.Marker marker) = []

-- the pairs that were tried for it
abbrev pub pairs_meant : Event → ℕ
pairs_meant (events.Move m pairs) = pairs
pairs_meant _ = 0

-- the movetext after it
abbrev pub MovesText : Event → Movetext → Movetext → Type 0
MovesText (events.Move m pairs) old new = Plays m old new
MovesText e old new = Annotates e old new

-- What can be written of it after such movetext: a word is a token. Some pair was tried for a move,
-- one at least for each candidate, and few were.
abbrev pub IsWritable : Movetext → Event → Type 0
IsWritable old (Word text) = IsToken text.now
IsWritable old (events.Move m pairs) =
    (0 < pairs) × (pairs ≤ 8) × (disambiguation_pairs old.levels.current.position m ≤ pairs)
IsWritable old _ = Unit {0}

-- A token of movetext is accepted, is no marker, and means this.
-- - `says`: no row of the table rejects it, and the part goes on with its items.
-- - `finds`: its pairs were tried to find its move.
pub record Means (old : GameState) (k : Kind) (new : GameState) (e : Event) : Type 0 where
  pub no_marker : marker_of k ≡ None
  pub says : (w : Writer) (part : Part) → IsOpen (game_by w old) part
      → (text_refusal old.profile part k ≡ None) × (in_text part k ≡ going (with_items part (items_meant e)))
  pub finds : (w : Writer) (part : Part) → IsOpen (game_by w old) part → CostsToFind part k (pairs_meant e)
  pub after : new ≡ record old { text = new.text; most_probes = max old.most_probes (pairs_meant e) }
  pub text : MovesText e old.text new.text
  pub fits : IsWritable old.text e

-- A row of the table rejects a token of movetext that is no marker.
pub record Refuses (old : GameState) (k : Kind) (new : GameState) (reason : Reason) : Type 0 where
  pub no_marker : marker_of k ≡ None
  pub takes : (w : Writer) (taken : Option (List ℕ)) (failures : ℕ)
      → TakesEntry (game_by w old) k (game_by w new) (Err reason) (unused taken failures)

-- The token is this marker, and nothing has changed.
pub record MeansMarker (old : GameState) (k : Kind) (new : GameState) (marker : Marker) : Type 0 where
  pub is : marker_of k ≡ Some (marker_text marker)
  pub same : new ≡ old

-- what a token of movetext means, or that it is rejected
abbrev pub Judges : GameState → Kind → GameState → Result Event Reason → Type 0
Judges old k new (Ok (events.Marker marker)) = MeansMarker old k new marker
Judges old k new (Ok e) = Means old k new e
Judges old k new (Err reason) = Refuses old k new reason

-- The marker ends the game, whatever token it is.
pub record EndsAtMarker (old : GameState) (marker : Marker) (new : GameState) : Type 0 where
  pub free : (w : Writer) (k : Kind) (part : Part) → marker_of k ≡ Some (marker_text marker)
      → IsOpen (game_by w old) part → text_refusal old.profile part k ≡ None
  pub outside : old.text.levels.around ≡ []
  pub after : new ≡ record old { stage = Between; marker = marker_text marker }

-- A row of the table rejects the marker, whatever token it is.
pub record RefusesMarker (old : GameState) (marker : Marker) (new : GameState)
    (reason : Reason) : Type 0 where
  pub inside : IsFalse (is_outside_the_table reason)
  pub why : (w : Writer) (k : Kind) (part : Part) → marker_of k ≡ Some (marker_text marker)
      → IsOpen (game_by w old) part → text_refusal old.profile part k ≡ Some reason
  pub same : new ≡ old

abbrev pub JudgesMarker : GameState → Marker → GameState → Result (Unit {0}) Reason → Type 0
JudgesMarker old marker new (Ok done) = EndsAtMarker old marker new
JudgesMarker old marker new (Err reason) = RefusesMarker old marker new reason

-- the tag section, unless movetext has begun before
abbrev pub section_unless : (begun : Bool) → List ℕ → List ℕ
section_unless true section = []
section_unless false section = section

-- the move just played leads from the position before it
abbrev pub IsPlayed : GameState → Move → Type 0
IsPlayed reading m =
    IsSomeAnd reading.text.levels.current.before
    (λ here. legal here m ≡ Some reading.text.levels.current.position)

-- as many pairs were tried to find the move just played as it has candidates, or more
abbrev pub IsFound : GameState → Move → ℕ → Type 0
IsFound reading m pairs =
    IsSomeAnd reading.text.levels.current.before (λ here. disambiguation_pairs here m ≤ pairs)

-- The move just played was written, or left out, if it leads from the position before it. The pairs
-- tried for it are counted, those to find it having been counted before.
pub record WritesMove {S A E : Type 0} (taken : S → Option (List ℕ)) (failures : S → ℕ) (m : Move)
    (pairs : ℕ) (old new : GameState) (w_old w_new : Writer) (sink_old sink_new : S)
    (r : Result A E) : Type 0 where
  pub tried : ℕ
  pub writes : (here : Parts) → old.text.levels.current.before ≡ Some here
      → PutsMove (mode_of_written w_old.written) (length old.text.levels.around) here m w_old w_new
      pairs tried r (seen (is_nothing w_old.written) (device taken failures sink_old sink_new))
  pub counts : pairs ≤ old.most_probes → new ≡ counting_probes old tried
  pub written : w_new.written ≡ w_old.written
  pub silent : LeavesSink (is_nothing w_old.written) sink_old sink_new

-- An annotation that is written as this token: the item that it adds, which is no move.
pub record IsAnnotation (token : List ℕ) (e : Event) : Type 0 where
  pub item : Item
  pub adds : items_meant e ≡ item ∷ []
  pub plain : is_move item ≡ false
  pub written : (is_after_move : Bool) (here : Parts) → tokens_at is_after_move here item ≡ token ∷ []
  pub untried : pairs_meant e ≡ 0
  pub moves : (old new : Movetext) → MovesText e old new → Annotates e old new

-- A token of movetext that a reader has judged is taken by its game, or a write failed: whatever it
-- means, if `Is` holds of that, and wherever it is.
pub record TakesMeant {S : Type 0} (taken : S → Option (List ℕ)) (failures : S → ℕ)
    (judge new : GameState) (w_old w_new : Writer) (sink_old sink_new : S)
    (r : Result Bool Reason) (Is : Event → Type 0) : Type 0 where
  pub written : w_new.written ≡ w_old.written
  pub takes : (old : GameState) (k : Kind) (at : ℕ) (e : Event) → Means old k judge e
      → IsTrue (may_have_movetext old.stage)
      → mode_of_written w_old.written ≡ mode_unless (is_nothing w_old.written) old.profile.mode → Is e
      → GameCall taken failures (game_by w_old old) (game_by w_new new) sink_old sink_new
      (TakesEntryPlaced (game_by w_old old) k at (game_by w_new new) r)
