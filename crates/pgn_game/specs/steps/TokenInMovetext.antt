-- **Bookkeeping**: what a game makes of a token in movetext.
use Rattle.std.specs.Prelude.{◌≡◌, ℕ, ◌-◌, ◌^◌, ◌<◌, ◌&&◌, not, nat_le, ◌==◌, Bool, true, false, IsTrue, List, [], ◌++◌, codes, bytes_eq, Option, None, Some, Result, Ok, Err}
use Rattle.chess_rules.specs.declared.position.Parts.{Parts}
use Rattle.pgn_lexer.specs.Tokens as tokens
use Rattle.pgn_lexer.specs.Tokens.{Kind}
use Rattle.pgn_game.specs.declared.reason.Reason.{Reason}
use Rattle.pgn_game.specs.declared.reason.Reason.TheVariants.{TagInMovetext, NotAMove, IllegalMove, AmbiguousMove, MoveLimit, NoMoveBefore, TooDeep, UnmatchedClose, MarkerInVariation, ResultDiffers, UnexpectedEnd}
use Rattle.pgn_game.specs.declared.stage.Stage.{Stage}
use Rattle.pgn_game.specs.declared.stage.Stage.TheVariants.{AfterName, AfterTags, InMovetext}
use Rattle.pgn_game.specs.games.Profile.{Profile}
use Rattle.pgn_game.specs.games.Chess.{position_of}
use Rattle.pgn_game.specs.games.Game.{Item, Game, Part}
use Rattle.pgn_game.specs.games.Levels.{depth, start_of}
use Rattle.pgn_game.specs.games.FaultTable.{refusal, is_marker, has_other_result, is_move_with, is_no_form, is_no_move, is_many_moves, is_one_move, is_at_limit, levels_of_part, position_in}
use Rattle.pgn_game.specs.games.Progress.{next, in_text}
use Rattle.pgn_game.specs.steps.Movetext.{HoldsItems}
use Rattle.pgn_game.specs.export.Text.{has_move}
use Rattle.pgn_game.specs.steps.GameState.{GameState, mode_written}

-- the part with these items more
abbrev pub with_items : Part → List Item → Part
with_items part more =
    record { stage = InMovetext; pairs = part.pairs; name = part.name; items = part.items ++ more }

-- the game of this part and this marker
abbrev pub game_of : Part → List ℕ → Game
game_of part marker = record { pairs = part.pairs; items = part.items; marker = marker }

-- the stages of a begun game at which movetext can begin or go on
abbrev pub may_have_movetext : Stage → Bool
may_have_movetext AfterTags = true
may_have_movetext InMovetext = true
may_have_movetext _ = false

-- the stages at which no name waits for its value
abbrev pub has_whole_pairs : Stage → Bool
has_whole_pairs AfterName = false
has_whole_pairs _ = true

-- a move can be taken: movetext can begin or go on, and the move can be counted
pub record MayTakeMove (reading : GameState) : Type 0 where
  pub few : reading.text.plies < 2 ^ 64 - 1
  pub stage : IsTrue (may_have_movetext reading.stage)

-- the position of a FEN tag with this value, or its field at fault; no position for another tag
abbrev pub fen_position : List ℕ → List ℕ → Result (Option Parts) ℕ
fen_position name value = elim (bytes_eq name (codes "FEN")) [
  | false ↦ Ok None
  | true ↦ elim (position_of value) [ Ok start ↦ Ok (Some start) | Err fault ↦ Err fault.field ]
]

-- Movetext.

-- The state has a part whose movetext is read, or after whose pairs movetext can begin.
pub record IsOpen (reading : GameState) (part : Part) : Type 0 where
  pub stage : reading.stage ≡ part.stage
  pub pairs : reading.tags ≡ record { held = part.pairs; pending_name = None }
  pub fresh : reading.stage ≡ AfterTags → part.items ≡ []
  pub held : HoldsItems (mode_written reading) (start_of part.pairs) part.items
      reading.text reading.line
  pub probed : IsTrue (has_move part.items) → 0 < reading.most_probes

-- the reason where a test holds, and else what the rest gives
abbrev pub or_else : Bool → Reason → Option Reason → Option Reason
or_else test reason rest = elim test [ true ↦ Some reason | false ↦ rest ]

-- a marker outside variations that is not the Result
abbrev pub is_other_result : Profile → Part → Kind → Bool
is_other_result p part k =
    has_other_result p.missing_result part k && (depth (levels_of_part part) == 0)

-- Why a token is rejected in movetext, by its kind. Each test comes before the next.
abbrev pub text_refusal : Profile → Part → Kind → Option Reason
text_refusal p part tokens.left_bracket = Some TagInMovetext
text_refusal p part tokens.end = Some UnexpectedEnd
text_refusal p part tokens.right_bracket = Some NotAMove
text_refusal p part (tokens.str text) = Some NotAMove
text_refusal p part tokens.left_paren =
    or_else (not (levels_of_part part).current.has_own_move) NoMoveBefore
    (or_else (nat_le p.depth (depth (levels_of_part part))) TooDeep None)
text_refusal p part tokens.right_paren = or_else (depth (levels_of_part part) == 0) UnmatchedClose None
text_refusal p part tokens.asterisk =
    or_else (nat_le 1 (depth (levels_of_part part))) MarkerInVariation
    (or_else (is_other_result p part tokens.asterisk) ResultDiffers None)
text_refusal p part (tokens.symbol s) =
    or_else (is_move_with is_no_form part (tokens.symbol s)) NotAMove
    (or_else (is_move_with is_no_move part (tokens.symbol s)) IllegalMove
    (or_else (is_move_with is_many_moves part (tokens.symbol s)) AmbiguousMove
    (or_else (is_move_with is_one_move part (tokens.symbol s) && is_at_limit (position_in part))
    MoveLimit
    (or_else (is_marker (tokens.symbol s) && nat_le 1 (depth (levels_of_part part))) MarkerInVariation
    (or_else (is_other_result p part (tokens.symbol s)) ResultDiffers None)))))
text_refusal p part k = None

-- The part is open. A token of this kind is rejected by the rows for movetext, and leads on as in
-- movetext.
pub record IsEntry (reading : GameState) (k : Kind) (part : Part) : Type 0 where
  pub is_open : IsOpen reading part
  pub row : refusal reading.profile part k ≡ text_refusal reading.profile part k
  pub leads : next part k ≡ in_text part k
