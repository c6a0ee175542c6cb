-- **Bookkeeping**: what an item of movetext does to the levels, the line and the sink.
use Rattle.std.specs.Prelude.{◌≡◌, ℕ, ◌+◌, ◌<◌, ◌≤◌, Bool, true, false, List, [], ◌∷◌, ◌++◌, ◌==◌, ◌&&◌, ◌||◌, not, map, length, drop, Option, None, Some, IsSomeAnd, Result, MatchResult, OnOk, All, IsTrue}
use Rattle.std.specs.Io.KnownBytes.{Appends}
use Rattle.chess_rules.specs.declared.position.Move.{Move}
use Rattle.chess_rules.specs.declared.position.Parts.{Parts}
use Rattle.chess_rules.specs.Legal.{legal}
use Rattle.pgn_layout.specs.Device.{AppendsFront, Counts, Device, Writes, device}
use Rattle.pgn_layout.specs.Lines.{IsToken}
use Rattle.pgn_layout.specs.Layout.{EndGame, Put, laid_from, line_at, text_at}
use Rattle.pgn_game.specs.declared.event.Event.{Event}
use Rattle.pgn_game.specs.declared.event.Event.TheVariants.{Open, Close}
use Rattle.pgn_game.specs.declared.mode.Mode.{Mode}
use Rattle.pgn_game.specs.declared.mode.Mode.TheVariants.{Full, Reduced}
use Rattle.pgn_game.specs.declared.mode.Written.{Written}
use Rattle.pgn_game.specs.declared.writer.Writer.{Writer}
use Rattle.pgn_game.specs.games.Game.{Item, move}
use Rattle.pgn_game.specs.export.Text.{is_move, tokens_at, full_text}
use Rattle.pgn_game.specs.steps.Movetext.{Movetext, StoredLevels, HoldsItems, ClosesLevel, level_at}
use Rattle.pgn_game.specs.public.MostTried.{CostsToWrite, is_written}
use Rattle.pgn_game.specs.public.Written.{is_nothing, mode_of_written, seen}

-- Tokens are put on a line one after another: what is written, the line after that, and the
-- failures. Each has 1 to 79 bytes.
pub record PutsTokens {A E : Type 0} (tokens : List (List ℕ)) (line new_line : List ℕ)
    (result : Result A E) (d : Device) : Type 0 where
  pub text : Writes d.before d.after result (laid_from line (map Put tokens)).written
  pub held : OnOk result (new_line ≡ (laid_from line (map Put tokens)).line)
  pub each : All IsToken tokens
  pub counted : Counts result d.failures d.failures_after

-- the tokens of the next item
abbrev pub tokens_due : Movetext → Item → List (List ℕ)
tokens_due text i = tokens_at text.is_after_move text.levels.current.position i

-- those of them that are written: all or none
abbrev pub tokens_if : Bool → Movetext → Item → List (List ℕ)
tokens_if written text i = elim written [ true ↦ tokens_due text i | false ↦ [] ]

-- whether the last item written is a move, after this item is written or left out
abbrev pub after_move_if : Bool → Movetext → Item → Bool
after_move_if written text i = elim written [ true ↦ is_move i | false ↦ text.is_after_move ]

-- what a move at this depth adds to the number of moves outside variations
abbrev pub counted_at : ℕ → ℕ
counted_at depth = elim (depth == 0) [ true ↦ 1 | false ↦ 0 ]

-- what an item at this depth adds to it
abbrev pub plies_in : Item → ℕ → ℕ
plies_in i depth = elim (is_move i) [ true ↦ counted_at depth | false ↦ 0 ]

-- The levels after a token that means this, which is no move. A move is before a variation that
-- opens, and a level is around one that closes.
abbrev pub LeadsLevels : Event → StoredLevels → StoredLevels → Type 0
LeadsLevels Open old new =
    IsSomeAnd old.current.before
    (λ start. new ≡ record { current = level_at start; around = old.current ∷ old.around })
LeadsLevels Close old new = (0 < length old.around) × ClosesLevel old.around new
LeadsLevels _ old new = new ≡ old

-- if nothing is written, the sink does not change
abbrev pub LeavesSink : {S : Type 0} → (silent : Bool) → S → S → Type 0
LeavesSink silent sink_old sink_new = IsTrue silent → sink_new ≡ sink_old

-- `Does` holds of the mode that is written and of the sink that contracts see. If nothing is
-- written, the sink does not change.
pub record ItemCall {S : Type 0} (written : Written) (taken : S → Option (List ℕ)) (failures : S → ℕ)
    (sink_old sink_new : S) (Does : Option Mode → Device → Type 0) : Type 0 where
  pub writes : Does (mode_of_written written)
      (seen (is_nothing written) (device taken failures sink_old sink_new))
  pub silent : LeavesSink (is_nothing written) sink_old sink_new

-- the number of pairs tried before an item is written, and after
abbrev pub TriesItem : Option Mode → Movetext → Item → ℕ → ℕ → Type 0
TriesItem mode text i old new =
    CostsToWrite (is_written mode (length text.levels.around) i) text.levels.current.position i old new

-- Movetext goes on with a legal move.
pub record Plays (m : Move) (old new : Movetext) : Type 0 where
  pub next : Parts
  pub leads : legal old.levels.current.position m ≡ Some next
  pub levels : new.levels ≡ record {
    current = record { position = next; before = Some old.levels.current.position };
    around = old.levels.around;
  }
  pub plies : new.plies ≡ old.plies + counted_at (length old.levels.around)
  pub is_after_move : new.is_after_move ≡ old.is_after_move

-- Movetext goes on with a token that means this, which is no move.
pub record Annotates (e : Event) (old new : Movetext) : Type 0 where
  pub levels : LeadsLevels e old.levels new.levels
  pub plies : new.plies ≡ old.plies
  pub is_after_move : new.is_after_move ≡ old.is_after_move

-- What is written.

-- whether annotations are written by a mode
abbrev pub writes_annotations : Option Mode → Bool
writes_annotations None = false
writes_annotations (Some Full) = true
writes_annotations (Some Reduced) = false

-- the token of an annotation, if it is written
abbrev pub token_if : Bool → List ℕ → List (List ℕ)
token_if written token = elim written [ true ↦ token ∷ [] | false ↦ [] ]

-- An annotation is written, or left out.
pub record PutsAnnotation {A E : Type 0} (mode : Option Mode) (token : List ℕ) (old new : Writer)
    (result : Result A E) (d : Device) : Type 0 where
  pub puts : PutsTokens (token_if (writes_annotations mode) token) old.line new.line result d
  pub writer : new ≡ record old {
    line = new.line;
    is_after_move = not (writes_annotations mode) && old.is_after_move;
  }

-- what a marker and the end of the game write behind a line, if anything is written
abbrev pub ending_if : Option Mode → List ℕ → List ℕ → List ℕ
ending_if None line marker = []
ending_if (Some mode) line marker =
    text_at line (Put marker) ++ text_at (line_at line (Put marker)) EndGame

-- the line after that
abbrev pub line_behind : Option Mode → List ℕ → List ℕ
line_behind None line = line
line_behind (Some mode) line = []

-- The marker and the end of the game are written, or left out.
pub record PutsMarker {A E : Type 0} (mode : Option Mode) (marker : List ℕ) (old new : Writer)
    (result : Result A E) (d : Device) : Type 0 where
  pub text : Writes d.before d.after result (ending_if mode old.line marker)
  pub line : OnOk result (new.line ≡ line_behind mode old.line)
  pub writer : new ≡ record old { line = new.line }
  pub counted : Counts result d.failures d.failures_after

-- A move from this position is written, at this depth, or left out, and the pairs tried before that
-- and by then.
pub record PutsMove {A E : Type 0} (mode : Option Mode) (depth : ℕ) (here : Parts) (m : Move)
    (old new : Writer) (pairs_before pairs_after : ℕ) (result : Result A E) (d : Device) : Type 0 where
  pub puts : PutsTokens (elim (is_written mode depth (move m)) [
    | true ↦ tokens_at old.is_after_move here (move m)
    | false ↦ []
  ]) old.line new.line result d
  pub writer : new ≡ record old { line = new.line; is_after_move = new.is_after_move }
  pub after : OnOk result (new.is_after_move ≡ (is_written mode depth (move m) || old.is_after_move))
  pub tried : CostsToWrite (is_written mode depth (move m)) here (move m) pairs_before pairs_after
  pub rises : (pairs_before ≤ pairs_after) × (pairs_after ≤ pairs_before + 1032)

-- what an item adds to the text of the lines that are full
abbrev pub item_text : Option Mode → Parts → List Item → Item → List ℕ
item_text None start items i = []
item_text (Some mode) start items i =
    drop (length (full_text mode start items)) (full_text mode start (items ++ i ∷ []))

-- One item more: it is held, and what it adds was appended, or if a write failed a prefix of that
-- and not all.
abbrev pub AddsItem : {A E : Type 0} → Option Mode → Parts → List Item → Item → Movetext → List ℕ
    → Result A E → Device → Type 0
AddsItem mode start items i text line result d =
    MatchResult result
    (λ _. HoldsItems mode start (items ++ i ∷ []) text line
    × Appends d.before d.after (item_text mode start items i))
    (λ _. AppendsFront d.before d.after (item_text mode start items i))

-- The same for any items that are held before. The number of moves rises by at most one.
pub record Adds {A E : Type 0} (mode : Option Mode) (i : Item) (text : Movetext) (line : List ℕ)
    (new_text : Movetext) (new_line : List ℕ) (result : Result A E) (d : Device) : Type 0 where
  pub adds : (start : Parts) (items : List Item) → HoldsItems mode start items text line
      → AddsItem mode start items i new_text new_line result d
  pub plies : new_text.plies ≤ text.plies + 1
  pub counted : Counts result d.failures d.failures_after
