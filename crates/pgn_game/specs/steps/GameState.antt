-- **Bookkeeping**: the state of a `Game`, as contracts see it, and what one token makes of it.
-- Letters: k is the kind of a token, g a game, p a profile. `old` and `new` are the state before a
-- call and after it. `before` and `after` are the bytes that the sink has taken then, if it reports
-- them.
use Rattle.std.specs.Prelude.{◌≡◌, ℕ, ◌+◌, ◌-◌, codes, ◌<◌, ◌≤◌, ◌==◌, ◌&&◌, not, bytes_eq, nat_le, false, IsTrue, is_some, Bool, true, List, [], length, Option, None, Some, IsSomeAnd, Result, Ok, Err}
use Rattle.std.specs.Io.KnownBytes.{Appends}
use Rattle.pgn_layout.specs.Device.{AppendsFront, Device, IsStill, device, one_more}
use Rattle.pgn_lexer.specs.Tokens.{Kind}
use Rattle.pgn_game.specs.declared.reason.Reason.{Reason}
use Rattle.pgn_game.specs.declared.reason.Reason.TheVariants.{WriteFault}
use Rattle.pgn_game.specs.declared.stage.Stage.{Stage}
use Rattle.pgn_game.specs.declared.stage.Stage.TheVariants.{Between, AfterLeftBracket, AfterName, InMovetext}
use Rattle.pgn_game.specs.declared.mode.Mode.{Mode}
use Rattle.pgn_game.specs.declared.marker.PlacedMarker.{PlacedMarker}
use Rattle.pgn_game.specs.games.Markers.{marker_text}
use Rattle.pgn_game.specs.public.Written.{mode_unless, seen}
use Rattle.pgn_game.specs.games.Profile.{Missing, Profile, counting, counts_as, known_result, takes_the_marker}
use Rattle.pgn_game.specs.games.Chess.{first_position}
use Rattle.pgn_game.specs.games.Pairs.{has_pair}
use Rattle.pgn_game.specs.steps.StoredPairs.{TagPairs}
use Rattle.pgn_game.specs.games.Game.{Game, Part, no_part}
use Rattle.pgn_game.specs.games.Levels.{start_of, plies_of, last_position}
use Rattle.pgn_game.specs.export.Text.{has_move}
use Rattle.pgn_game.specs.steps.Movetext.{Movetext, HoldsItems, movetext_from}
use Rattle.pgn_game.specs.games.Reason.{number_of}
use Rattle.pgn_game.specs.games.FaultTable.{refusal, marker_of, position_if_move, position_in}
use Rattle.pgn_game.specs.games.Progress.{Next, going, whole, next}
use Rattle.pgn_game.specs.export.Due.{gain}
use Rattle.pgn_game.specs.public.MostTried.{Raises, Tries, TriesUnwritten}

-- How a game is written. `announced` is the marker that was announced, with its place, if one was:
-- the next game has to end with it. If `is_silent`, nothing is written.
pub record Writing : Type 0 where
  pub announced : Option PlacedMarker
  pub is_silent : Bool

-- The profile, how the game is written, its stage, its pairs, its movetext, the number of moves
-- outside variations of the games before it, the most pairs tried for a move, the line of
-- movetext, and the marker that ended the game before, with its place.
pub record GameState : Type 0 where
  pub profile : Profile
  pub writing : Writing
  pub stage : Stage
  pub tags : TagPairs
  pub text : Movetext
  pub earlier_plies : ℕ
  pub most_probes : ℕ
  pub line : List ℕ
  pub marker : List ℕ
  pub marker_at : ℕ

-- no token was read yet, and there is room for so many pairs and levels
abbrev pub unread : (tags levels : ℕ) → Mode → GameState
unread tags levels mode = record {
  profile = record {
    tags = tags;
    depth = levels - 1;
    mode = mode;
    missing_result = counts_as (codes "*");
  };
  writing = record { announced = None; is_silent = false };
  stage = Between;
  tags = record { held = []; pending_name = None };
  text = movetext_from first_position;
  earlier_plies = 0;
  most_probes = 0;
  line = [];
  marker = codes "*";
  marker_at = 0;
}

-- the same before its first token
abbrev pub restarted : GameState → GameState
restarted reading = record reading {
  stage = Between;
  tags = record { held = []; pending_name = None };
  text = movetext_from first_position;
  earlier_plies = 0;
  most_probes = 0;
}

-- the mode in which this game is written, if it is
abbrev pub mode_written : GameState → Option Mode
mode_written reading = mode_unless reading.writing.is_silent reading.profile.mode

-- this marker was announced
abbrev pub with_announced : PlacedMarker → GameState → GameState
with_announced marker reading = record reading { writing = record reading.writing { announced = Some marker } }

-- nothing is written from now on
abbrev pub silenced : GameState → GameState
silenced reading = record reading { writing = record reading.writing { is_silent = true } }

-- the sink before a call and after it, as the contracts see it
abbrev pub sink_of : {S : Type 0} → GameState → (S → Option (List ℕ)) → (S → ℕ) → S → S → Device
sink_of reading bytes failures old new = seen reading.writing.is_silent (device bytes failures old new)

-- A call leaves the game silent or not, as it was. If it is silent, the sink does not change.
pub record KeepsSilence {S : Type 0} (old new : GameState) (sink_old sink_new : S) : Type 0 where
  pub silent : new.writing.is_silent ≡ old.writing.is_silent
  pub untouched : IsTrue old.writing.is_silent → sink_new ≡ sink_old

-- `Takes` holds of the sink that contracts see. The call leaves the game silent or not, as it
-- was.
pub record GameCall {S : Type 0} (taken : S → Option (List ℕ)) (failures : S → ℕ)
    (old new : GameState) (sink_old sink_new : S) (Takes : Device → Type 0) : Type 0 where
  pub takes : Takes (sink_of old taken failures sink_old sink_new)
  pub silent : KeepsSilence old new sink_old sink_new

-- What always holds of the pairs at a stage. After a name, and nowhere else, a name waits for its
-- value, and it has at most 249 bytes. After a `[` there is room for one pair more.
abbrev pub AreSound : ℕ → Stage → TagPairs → Type 0
AreSound most AfterLeftBracket tags = (tags.pending_name ≡ None) × (length tags.held < most)
AreSound most AfterName tags = IsSomeAnd tags.pending_name (λ name. length name ≤ 249)
AreSound most _ tags = tags.pending_name ≡ None

-- The pairs held are those of the part, and none has the name that waits for its value. Between
-- games they may be those of the game before.
abbrev pub HoldsPairs : Stage → TagPairs → Part → Type 0
HoldsPairs Between tags part = part ≡ no_part
HoldsPairs AfterName tags part = (tags ≡ record { held = part.pairs; pending_name = Some part.name }) × (has_pair part.pairs part.name ≡ false)
HoldsPairs _ tags part = tags ≡ record { held = part.pairs; pending_name = None }

-- The movetext held is that of the part, which has no item before its movetext begins. Once it has
-- a move, a pair was tried. Between games it may be that of the game before, but for the line,
-- which is empty.
abbrev pub HoldsText : Stage → GameState → Part → Type 0
HoldsText Between reading part = reading.line ≡ []
HoldsText InMovetext reading part =
    HoldsItems (mode_written reading) (start_of part.pairs) part.items reading.text reading.line × (IsTrue (has_move part.items) → 0 < reading.most_probes)
HoldsText _ reading part = (part.items ≡ []) × (reading.text ≡ movetext_from (start_of part.pairs)) × (reading.line ≡ [])

-- The state agrees with a part: its stage, its pairs and its movetext are those of the part.
-- Between games it may still hold the game before.
pub record Agrees (reading : GameState) (part : Part) : Type 0 where
  pub stage : reading.stage ≡ part.stage
  pub pairs : HoldsPairs reading.stage reading.tags part
  pub text : HoldsText reading.stage reading part

-- The game g was just finished, and the state still has its pairs, its number of moves, its last
-- position and its marker.
pub record IsBehind (reading : GameState) (g : Game) : Type 0 where
  pub agrees : Agrees reading no_part
  pub pairs : reading.tags.held ≡ g.pairs
  pub plies : reading.text.plies ≡ plies_of g
  pub position : reading.text.levels.current.position ≡ last_position g
  pub marker : reading.marker ≡ g.marker
  pub probed : IsTrue (has_move g.items) → 0 < reading.most_probes

-- the number of moves outside variations of the finished games; between games the state still
-- has that of the last one
abbrev pub plies_at_stage : Stage → ℕ → ℕ → ℕ
plies_at_stage Between earlier plies = earlier + plies
plies_at_stage _ earlier plies = earlier

-- the same, of a state
abbrev pub plies_of_finished_games : GameState → ℕ
plies_of_finished_games reading = plies_at_stage reading.stage reading.earlier_plies reading.text.plies

-- how many moves a token adds to them: those of the game that it finishes
abbrev pub plies_added : Next → ℕ
plies_added (going part) = 0
plies_added (whole g) = plies_of g

-- What a token does that is not rejected: the game goes on, or the token finished it.
pub data Accepted : Type 0 where
  More : Accepted
  Finished : Accepted

-- after a token: the state agrees with the part that the token leaves, or the game was just
-- finished
abbrev pub Leads : Next → Accepted → GameState → Type 0
Leads (going part) More new = Agrees new part
Leads (going part) Finished new = ⊥
Leads (whole g) More new = ⊥
Leads (whole g) Finished new = IsBehind new g

-- The value by which a missing Result is written: the text that it counts as. If it takes the
-- marker, it is the announced marker, or empty if none was announced.
abbrev pub announced_result : Missing → Option PlacedMarker → List ℕ
announced_result (counts_as text) announced = text
announced_result takes_the_marker None = []
announced_result takes_the_marker (Some m) = marker_text m.marker

-- the same, of a state
abbrev pub known_of : GameState → List ℕ
known_of reading = announced_result reading.profile.missing_result reading.writing.announced

-- the profile by which a game is written: a missing Result counts as that value
abbrev pub as_written : GameState → Profile
as_written reading = counting reading.profile (known_of reading)

-- The marker that the game has to end with: the one that was announced, where the game is
-- written and a missing Result takes the marker.
abbrev pub expected_by : Bool → Missing → Option PlacedMarker → Option PlacedMarker
expected_by false takes_the_marker announced = announced
expected_by _ _ announced = None

-- the same, of a state
abbrev pub expected_of : GameState → Option PlacedMarker
expected_of reading = expected_by reading.writing.is_silent reading.profile.missing_result reading.writing.announced

-- a marker with this text, at this place, is another one than the game has to end with
abbrev pub is_unexpected : Option PlacedMarker → List ℕ → ℕ → Bool
is_unexpected None text at = false
is_unexpected (Some m) text at = not (bytes_eq text (marker_text m.marker) && (at == m.at))

-- a missing Result counts as a text, so it is known before the marker
abbrev pub IsKnown : Profile → Type 0
IsKnown p = p.missing_result ≡ counts_as (known_result p.missing_result)

-- A token is accepted: it leads on, what it adds was appended, and the pairs tried for it are
-- counted.
pub record IsAccepted (old : GameState) (part : Part) (k : Kind) (new : GameState) (accepted : Accepted) (before after : Option (List ℕ)) : Type 0 where
  pub free : refusal old.profile part k ≡ None
  pub leads : Leads (next part k) accepted new
  pub plies : plies_of_finished_games new ≡ plies_of_finished_games old + plies_added (next part k)
  pub appended : Appends before after (gain (as_written old) part k)
  pub tried : Raises (Tries old.writing.is_silent old.profile part k) old.most_probes new.most_probes

-- A token is not accepted. The pairs tried for it are counted.
-- - `refused`: a row of the fault table rejects it, and nothing is appended. If it is rejected as a
--   move, the state still has the position before it.
-- - `unwritten`: a write failed. A prefix of what the token adds was appended, and not all.
pub data IsStopped (old : GameState) (part : Part) (k : Kind) (new : GameState)
    (before after : Option (List ℕ)) : Reason → Type 0 where
  refused : (reason : Reason) → refusal old.profile part k ≡ Some reason → Appends before after []
      → Raises (Tries old.writing.is_silent old.profile part k) old.most_probes new.most_probes
      → position_if_move reason new.text.levels.current.position ≡ position_if_move reason (position_in part)
      → IsStopped old part k new before after reason
  unwritten : refusal old.profile part k ≡ None
      → AppendsFront before after (gain (as_written old) part k)
      → Raises (TriesUnwritten old.writing.is_silent old.profile part k) old.most_probes new.most_probes
      → IsStopped old part k new before after WriteFault

-- What is returned for a token after a part with which the state agrees: the token is accepted, or
-- it is not.
abbrev pub Answers : GameState → Part → Kind → GameState → Result Accepted Reason → Option (List ℕ)
    → Option (List ℕ) → Type 0
Answers old part k new (Ok accepted) before after = IsAccepted old part k new accepted before after
Answers old part k new (Err reason) before after = IsStopped old part k new before after reason

-- A token after which no game is begun, and that finished none, changes nothing. In movetext, one
-- that finishes no game leaves it there.
abbrev pub Stays : GameState → GameState → Result Accepted Reason → Type 0
Stays old new (Ok More) =
    (new.stage ≡ Between → new ≡ old) × (old.stage ≡ InMovetext → new.stage ≡ InMovetext)
Stays old new (Ok Finished) = Unit {0}
Stays old new (Err reason) = Unit {0}

-- only a marker finishes a game, and no game is begun then
abbrev pub FinishesAtMarker : Kind → GameState → Result Accepted Reason → Type 0
FinishesAtMarker k new (Ok More) = Unit {0}
FinishesAtMarker k new (Ok Finished) = IsTrue (is_some (marker_of k)) × (new.stage ≡ Between)
FinishesAtMarker k new (Err reason) = Unit {0}

-- a reason that is no row of the fault table: 50 to 53 are about a device, the length of the input
-- or a second reading
abbrev pub is_outside_the_table : Reason → Bool
is_outside_the_table reason = nat_le 50 (number_of reason)

-- If the reason is outside the table, it is `WriteFault`, and the sink counts one failure more.
-- Otherwise the count stays.
abbrev pub CountsStop : Bool → Reason → ℕ → ℕ → Type 0
CountsStop false reason old new = new ≡ old
CountsStop true reason old new = (reason ≡ WriteFault) × (new ≡ one_more old)

-- the same for a result: without an error the count stays
abbrev pub CountsWrites : Result Accepted Reason → Device → Type 0
CountsWrites (Ok accepted) sink = IsStill sink
CountsWrites (Err reason) sink =
    CountsStop (is_outside_the_table reason) reason sink.failures sink.failures_after
