-- **Bookkeeping**: what a game returns for a token of one stage, and what taking one does.
-- Letters: k is the kind of a token, s the text of a symbol, r the result of a call, d the sink
-- before the call and after it. `old` and `new` are the state before a call and after it.
use Rattle.std.specs.Prelude.{◌≡◌, ℕ, ◌+◌, ◌≤◌, ◌<◌, ◌⊎◌, max, Bool, true, false, IsTrue, List, [], length, drop, Option, None, Some, Result, Ok, Err, IfOk, OnOk}
use Rattle.std.specs.Io.KnownBytes.{Appends}
use Rattle.std.specs.Option.{ok_or}
use Rattle.chess_rules.specs.declared.position.Move.{Move}
use Rattle.chess_rules.specs.declared.position.Parts.{Parts}
use Rattle.chess_rules.specs.Legal.{is_legal, legal}
use Rattle.chess_rules.specs.declared.position.Played.{Played}
use Rattle.chess_text.specs.MoveOfForm.{with_next}
use Rattle.chess_text.specs.San.{disambiguation_pairs}
use Rattle.pgn_layout.specs.Device.{AppendsFront, Counts, Device, IsStill, Writes}
use Rattle.pgn_lexer.specs.Tokens.{Kind}
use Rattle.pgn_game.specs.declared.marker.Marker.{Marker}
use Rattle.pgn_game.specs.declared.mode.Mode.{Mode}
use Rattle.pgn_game.specs.declared.stage.Stage.{Stage}
use Rattle.pgn_game.specs.declared.stage.Stage.TheVariants.{Between, AfterTags, InMovetext}
use Rattle.pgn_game.specs.declared.reason.Reason.{Reason}
use Rattle.pgn_game.specs.declared.reason.Reason.TheVariants.{IllegalMove, ResultDiffers, WriteFault}
use Rattle.pgn_game.specs.games.Markers.{marker_text}
use Rattle.pgn_game.specs.games.FaultTable.{marker_of}
use Rattle.pgn_game.specs.games.Profile.{Profile}
use Rattle.pgn_game.specs.games.Pairs.{Pair}
use Rattle.pgn_game.specs.games.Chess.{first_position, move_of}
use Rattle.pgn_game.specs.games.Game.{Part}
use Rattle.pgn_game.specs.export.TagSection.{tag_section}
use Rattle.pgn_game.specs.export.Text.{torn}
use Rattle.pgn_game.specs.public.Tried.{AddsPairs, Costs}
use Rattle.pgn_game.specs.public.MostTried.{CostsToFind}
use Rattle.pgn_game.specs.games.Progress.{Next, next, in_text}
use Rattle.pgn_game.specs.export.Due.{text_next}
use Rattle.pgn_game.specs.public.FoundMove.{found_in}
use Rattle.pgn_game.specs.steps.Movetext.{movetext_from}
use Rattle.pgn_game.specs.steps.GameState.{Accepted, More, Finished, GameState, Agrees, Answers, as_written, FinishesAtMarker, Leads, Stays, CountsWrites, expected_of, is_unexpected, known_of, plies_added, plies_of_finished_games}
use Rattle.pgn_game.specs.steps.TokenInMovetext.{IsEntry, may_have_movetext}

-- A game begins.

-- nothing is left of the game before, and movetext may come as it does after pairs
abbrev pub at_game_start : GameState → GameState
at_game_start old = record old {
  stage = AfterTags;
  tags = record { held = []; pending_name = None };
  text = movetext_from first_position;
  earlier_plies = old.earlier_plies + old.text.plies;
}

-- What a call leaves as it was, or nearly: the profile, how the game is written, the number of
-- moves, but for one more, and the most pairs tried, which does not fall.
pub record Keeps (old new : GameState) : Type 0 where
  pub profile : new.profile ≡ old.profile
  pub writing : new.writing ≡ old.writing
  pub plies : new.earlier_plies + new.text.plies ≤ old.earlier_plies + old.text.plies + 1
  pub probes : old.most_probes ≤ new.most_probes

-- what the part or the game that a token leads to adds to the text written of the game
abbrev pub gain_to : Profile → Part → Next → List ℕ
gain_to p part to = drop (length (torn p part)) (text_next p to)

-- the state has the part or the game that a token leads to, and what that adds was appended
pub record Goes (old : GameState) (part : Part) (to : Next) (new : GameState) (accepted : Accepted)
    (d : Device) : Type 0 where
  pub leads : Leads to accepted new
  pub plies : plies_of_finished_games new ≡ plies_of_finished_games old + plies_added to
  pub appended : Appends d.before d.after (gain_to (as_written old) part to)

-- the same, or a write failed, and a prefix of it was appended and not all
abbrev pub GoesTo : GameState → Part → Next → GameState → Result Accepted Reason → Device → Type 0
GoesTo old part to new (Ok accepted) d = Goes old part to new accepted d
GoesTo old part to new (Err reason) d =
    (reason ≡ WriteFault) × AppendsFront d.before d.after (gain_to (as_written old) part to)

-- What putting a token results in, for each part that `IsOf` allows.
pub record PutResult (old : GameState) (IsOf : Part → Type 0) (to : Part → Next) (new : GameState)
    (r : Result Accepted Reason) (d : Device) : Type 0 where
  pub goes : (part : Part) → IsOf part → GoesTo old part (to part) new r d
  pub keeps : Keeps old new
  pub stays : Stays old new r
  pub counted : CountsWrites r d

-- The result for a token, of a call that returns only that the game goes on.
abbrev pub continued : Result Unit Reason → Result Accepted Reason
continued (Ok done) = Ok More
continued (Err reason) = Err reason

-- the same of a call that returns only that the game was finished
abbrev pub ended : Result Unit Reason → Result Accepted Reason
ended (Ok done) = Ok Finished
ended (Err reason) = Err reason

-- the game goes on, or there was an error
abbrev pub FinishesNone : Result Accepted Reason → Type 0
FinishesNone (Ok More) = Unit {0}
FinishesNone (Ok Finished) = ⊥
FinishesNone (Err reason) = Unit {0}

-- What is returned for a token, after each part that `IsOf` allows.
pub record Takes (old : GameState) (IsOf : Part → Type 0) (k : Kind) (new : GameState)
    (r : Result Accepted Reason) (d : Device) : Type 0 where
  pub accepts : (part : Part) → IsOf part → Answers old part k new r d.before d.after
  pub keeps : Keeps old new
  pub stays : Stays old new r
  pub finished : FinishesAtMarker k new r
  pub counted : CountsWrites r d

-- what is returned for a token after a part with which the state agrees
abbrev pub TakesToken : GameState → Kind → GameState → Result Accepted Reason → Device → Type 0
TakesToken old k new r d = Takes old (Agrees old) k new r d

-- the same for a token of movetext
abbrev pub TakesEntry : GameState → Kind → GameState → Result Accepted Reason → Device → Type 0
TakesEntry old k new r d = Takes old (IsEntry old k) k new r d

-- The marker that ends a game was taken, whatever token it is.
pub record TakesMarker (old : GameState) (marker : Marker) (new : GameState)
    (r : Result Unit Reason) (d : Device) : Type 0 where
  pub takes : (k : Kind) → marker_of k ≡ Some (marker_text marker)
      → TakesEntry old k new (ended r) d
  pub keeps : Keeps old new
  pub between : OnOk r (new.stage ≡ Between)
  pub counted : CountsWrites (ended r) d

-- a sink to which nothing is written in the call
abbrev pub unused : Option (List ℕ) → ℕ → Device
unused taken failures =
    record { before = taken; after = taken; failures = failures; failures_after = failures }

-- what is returned for a token for which nothing is written
abbrev pub TakesUnwritten : GameState → Kind → GameState → Result Accepted Reason → Type 0
TakesUnwritten old k new r =
    (taken : Option (List ℕ)) (failures : ℕ) → TakesToken old k new r (unused taken failures)

-- A token that comes after this part is taken as the first of movetext, or as the next one, after a
-- part with the same pairs and items.
pub record EntersPart (ready : GameState) (k : Kind) (part : Part) : Type 0 where
  pub opened : Part
  pub entry : IsEntry ready k opened
  pub next : next part k ≡ in_text opened k
  pub pairs : opened.pairs ≡ part.pairs
  pub items : opened.items ≡ part.items

-- A token belongs to movetext, and in the state `ready` it can be taken as such. That is the same
-- as to take it in `old`.
pub record EntersMovetext (old : GameState) (k : Kind) (ready : GameState) : Type 0 where
  pub stage : IsTrue (may_have_movetext ready.stage)
  pub profile : ready.profile ≡ old.profile
  pub writing : ready.writing ≡ old.writing
  pub plies : ready.earlier_plies + ready.text.plies ≤ old.earlier_plies + old.text.plies
  pub probes : old.most_probes ≤ ready.most_probes
  pub enters : (part : Part) → Agrees old part → EntersPart ready k part
  pub takes : (new : GameState) (r : Result Accepted Reason) (d : Device) → TakesEntry ready k new r d
      → TakesToken old k new r d

-- outside movetext a token is taken, or it belongs to movetext
abbrev pub TakesOutside : GameState → Kind → GameState → Option (Result Accepted Reason) → Type 0
TakesOutside old k new (Some r) = TakesUnwritten old k new r
TakesOutside old k new None = EntersMovetext old k new

-- ---- a token at its place

-- A marker with this text, at this place, was not taken: another one was announced. Nothing was
-- written of it.
pub record IsUnexpected (old : GameState) (text : List ℕ) (at : ℕ) (new : GameState) (reason : Reason) (d : Device) : Type 0 where
  pub other : is_unexpected (expected_of old) text at ≡ true
  pub why : reason ≡ ResultDiffers
  pub keeps : Keeps old new
  pub unwritten : d.after ≡ d.before
  pub still : IsStill d

-- The token at this place is another marker than was announced.
pub record MeetsAnother (old : GameState) (k : Kind) (at : ℕ) (new : GameState) (reason : Reason) (d : Device) : Type 0 where
  pub text : List ℕ
  pub is : marker_of k ≡ Some text
  pub unexpected : IsUnexpected old text at new reason d

-- If it is a marker of which a write failed, it is no other one than was announced.
abbrev pub IsExpectedIf : GameState → Kind → ℕ → Reason → Type 0
IsExpectedIf old k at reason =
    (text : List ℕ) → marker_of k ≡ Some text → reason ≡ WriteFault → is_unexpected (expected_of old) text at ≡ false

-- The token at this place finished the game: it is the marker that was announced, if one was.
pub record FinishesAt (old : GameState) (IsOf : Part → Type 0) (k : Kind) (at : ℕ) (new : GameState) (d : Device) : Type 0 where
  pub takes : Takes old IsOf k new (Ok Finished) d
  pub place : new.marker_at ≡ at
  pub text : List ℕ
  pub is : marker_of k ≡ Some text
  pub expected : is_unexpected (expected_of old) text at ≡ false

-- The token at this place is taken, after each part that `IsOf` allows, and the result says whether
-- it finished the game; or it is not taken.
abbrev pub TakesAt : GameState → (Part → Type 0) → Kind → ℕ → GameState → Result Bool Reason → Device → Type 0
TakesAt old IsOf k at new (Ok true) d = FinishesAt old IsOf k at new d
TakesAt old IsOf k at new (Ok false) d = Takes old IsOf k new (Ok More) d
TakesAt old IsOf k at new (Err reason) d =
    (Takes old IsOf k new (Err reason) d × IsExpectedIf old k at reason) ⊎ MeetsAnother old k at new reason d

-- after a part with which the state agrees
abbrev pub TakesPlaced : GameState → Kind → ℕ → GameState → Result Bool Reason → Device → Type 0
TakesPlaced old k at new r d = TakesAt old (Agrees old) k at new r d

abbrev pub FinishesPlaced : GameState → Kind → ℕ → GameState → Device → Type 0
FinishesPlaced old k at new d = FinishesAt old (Agrees old) k at new d

-- the same for a token of movetext
abbrev pub TakesEntryPlaced : GameState → Kind → ℕ → GameState → Result Bool Reason → Device → Type 0
TakesEntryPlaced old k at new r d = TakesAt old (IsEntry old k) k at new r d

-- the marker at this place ends the game, whatever token it is, or it is not taken
abbrev pub FinishesAtPlace : GameState → Marker → ℕ → GameState → Result Bool Reason → Device → Type 0
FinishesAtPlace old marker at new r d = (k : Kind) → marker_of k ≡ Some (marker_text marker) → TakesEntryPlaced old k at new r d

-- Moves.

-- the result of a search that makes no position, with the position after the move
abbrev pub with_position : Parts → Result Move Reason → Result Played Reason
with_position p (Ok m) = ok_or (with_next m (legal p m)) IllegalMove
with_position p (Err reason) = Err reason

-- r is the move that a text names in the position p, or why it names none. The count of tried pairs
-- goes from before to after: by at least one for each candidate of a move that is found.
pub record NamesMove (p : Parts) (text : List ℕ) (r : Result Move Reason) (before after : ℕ) : Type 0 where
  pub found : with_position p r ≡ found_in p (move_of p text)
  pub legal : IfOk r (λ m. IsTrue (is_legal p m))
  pub tried : AddsPairs (Costs p text) before after
  pub few : after ≤ before + 8
  pub some : OnOk r (before < after)
  pub candidates : IfOk r (λ m. before + disambiguation_pairs p m ≤ after)

-- the state with so many as the most pairs tried, unless there were more before
abbrev pub counting_probes : GameState → ℕ → GameState
counting_probes old n = record old { most_probes = max old.most_probes n }

-- The move that a symbol names was sought, and the pairs that were tried are counted.
pub record Finds (old : GameState) (s : List ℕ) (new : GameState) (r : Result Move Reason)
    (n : ℕ) : Type 0 where
  pub found : with_position old.text.levels.current.position r
      ≡ found_in old.text.levels.current.position (move_of old.text.levels.current.position s)
  pub legal : IfOk r (λ m. IsTrue (is_legal old.text.levels.current.position m))
  pub counted : new ≡ counting_probes old n
  pub tried : Costs old.text.levels.current.position s n
  pub few : n ≤ 8
  pub some : OnOk r (0 < n)
  pub candidates : IfOk r (λ m. disambiguation_pairs old.text.levels.current.position m ≤ n)

-- The move of a token that another row rejects was sought, if it has one, and the pairs that were
-- tried are counted.
pub record CountsMove (old : GameState) (k : Kind) (new : GameState) : Type 0 where
  pub pairs : ℕ
  pub counted : new ≡ counting_probes old pairs
  pub tried : (part : Part) → Agrees old part → CostsToFind part k pairs

-- The tag section.

-- What is written of a game before its items: its tag section, where movetext begins. `result` is
-- the value of a missing Result.
abbrev pub section_due : Stage → Mode → List ℕ → List Pair → List ℕ
section_due InMovetext mode result ps = []
section_due _ mode result ps = tag_section mode result ps

-- the same, of a state
abbrev pub section_due_of : GameState → List ℕ
section_due_of r = section_due r.stage r.profile.mode (known_of r) r.tags.held

-- The tag section was written, if movetext begins here, and nothing else has changed.
pub record BeginsText {A E : Type 0} (old new : GameState) (r : Result A E)
    (d : Device) : Type 0 where
  pub text : Writes d.before d.after r (section_due_of old)
  pub begun : OnOk r (new ≡ record old { stage = InMovetext })
  pub profile : new.profile ≡ old.profile
  pub writing : new.writing ≡ old.writing
  pub earlier : new.earlier_plies ≡ old.earlier_plies
  pub plies : new.text.plies ≡ old.text.plies
  pub probes : new.most_probes ≡ old.most_probes
  pub counted : Counts r d.failures d.failures_after
