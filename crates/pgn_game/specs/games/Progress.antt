-- **Definition**: the games that tokens are read into, and the output and the verdict of a text.
-- `Progress` has the finished games, and the part of the game after them. `written` is the output
-- for such progress, `due` the output for tokens, and `output` the output for the bytes of a text.
-- Letters: p is the profile, b the progress, k the kind of a token, t a token, ts are tokens, g is
-- a game, s a text or that of a symbol, r what was read.
use Rattle.std.specs.Prelude.{ℕ, true, false, List, [], ◌∷◌, ◌++◌, length, map, sum, Option, None, Some, Result, Ok, Err}
use Rattle.chess_rules.specs.declared.position.Parts.{Parts}
use Rattle.chess_rules.specs.declared.position.Played.{Played}
use Rattle.chess_text.specs.declared.resolution.SanFault.{SanFault}
use Rattle.pgn_lexer.specs.Tokens as tokens
use Rattle.pgn_lexer.specs.Tokens.{Kind, Token}
use Rattle.pgn_lexer.specs.TokensOf.{tokens_of}
use Rattle.pgn_game.specs.declared.reason.Fault.{Fault}
use Rattle.pgn_game.specs.games.Profile.{Profile}
use Rattle.pgn_game.specs.games.Pairs.{insert_pair}
use Rattle.pgn_game.specs.declared.stage.Stage.{Stage}
use Rattle.pgn_game.specs.declared.stage.Stage.TheVariants.{Between, AfterLeftBracket, AfterName, AfterValue, AfterTags, InMovetext}
use Rattle.pgn_game.specs.games.Chess.{move_of}
use Rattle.pgn_game.specs.games.Game as games
use Rattle.pgn_game.specs.games.Game.{Item, Game, Part, no_part}
use Rattle.pgn_game.specs.games.Levels.{plies_of}
use Rattle.pgn_game.specs.games.FaultTable.{refusal, marker_of, is_number, position_if_move, position_in}
use Rattle.pgn_game.specs.export.Text.{text_of, torn}

-- the part that a token leaves, or the game that it finishes
pub data Next : Type 0 where
  going : Part → Next
  whole : Game → Next

-- the part at this stage
abbrev pub at_stage : Stage → Part → Part
at_stage stage part = record { stage = stage; pairs = part.pairs; name = part.name; items = part.items }

-- the one move that a symbol names; there is none if the symbol is rejected
abbrev pub move_item : Option (Result Played SanFault) → List Item
move_item None = []
move_item (Some (Err fault)) = []
move_item (Some (Ok played)) = games.move played.mv ∷ []

-- the items that a token of movetext adds; a number or a period adds none (PGN 8.2.2.1)
abbrev pub items_of : Part → Kind → List Item
items_of part (tokens.symbol s) = elim (is_number s) [ true ↦ [] | false ↦ move_item (move_of (position_in part) s) ]
items_of part (tokens.glyph n) = games.glyph n ∷ []
items_of part tokens.comment_open = games.comment_open ∷ []
items_of part (tokens.word text) = games.word text ∷ []
items_of part tokens.comment_close = games.comment_close ∷ []
items_of part tokens.left_paren = games.open_variation ∷ []
items_of part tokens.right_paren = games.close_variation ∷ []
items_of part _ = []

-- a token of movetext: a marker finishes the game, any other adds its items
abbrev pub in_text : Part → Kind → Next
in_text part k =
    elim (marker_of k) [
      | Some marker ↦ whole (record { pairs = part.pairs; items = part.items; marker = marker })
      | None ↦ going (record { stage = InMovetext; pairs = part.pairs; name = part.name; items = part.items ++ items_of part k })
    ]

-- What a token that is not rejected leads to, stage by stage. Comments before a game and in a pair
-- are dropped, and the end changes nothing.
abbrev pub next_in : Stage → Part → Kind → Next
next_in Between part tokens.left_bracket = going (at_stage AfterLeftBracket part)
next_in Between part tokens.comment_open = going part
next_in Between part (tokens.word text) = going part
next_in Between part tokens.comment_close = going part
next_in Between part tokens.end = going part
next_in Between part k = in_text part k
next_in AfterLeftBracket part (tokens.symbol name) = going (record { stage = AfterName; pairs = part.pairs; name = name; items = part.items })
next_in AfterLeftBracket part k = going part
next_in AfterName part (tokens.str value) =
    going (record { stage = AfterValue; pairs = insert_pair (record { name = part.name; value = value }) part.pairs; name = []; items = part.items })
next_in AfterName part k = going part
next_in AfterValue part tokens.right_bracket = going (at_stage AfterTags part)
next_in AfterValue part k = going part
next_in AfterTags part tokens.left_bracket = going (at_stage AfterLeftBracket part)
next_in AfterTags part k = in_text part k
next_in InMovetext part k = in_text part k

-- what a token leads to
abbrev pub next : Part → Kind → Next
next part k = next_in part.stage part k

-- progress: the finished games, and the part of a game after them
pub record Progress : Type 0 where
  pub games : List Game
  pub part : Part

-- nothing is read yet
abbrev pub no_progress : Progress
no_progress = record { games = []; part = no_part }

-- the progress with the part that a token leaves, or with the game that it finishes
abbrev pub progress_with : List Game → Next → Progress
progress_with games (going part) = record { games = games; part = part }
progress_with games (whole g) = record { games = games ++ g ∷ []; part = no_part }

-- the progress after a token
abbrev pub progress_after : Progress → Token → Progress
progress_after b t = progress_with b.games (next b.part t.kind)

-- what tokens are read into: the progress before the first that is rejected, and its fault, if one
-- is
pub record Read : Type 0 where
  pub progress : Progress
  pub fault : Option Fault

-- tokens that are read after this progress
abbrev pub read_from : Profile → Progress → List Token → Read
read_from p b [] = record { progress = b; fault = None }
read_from p b (t ∷ ts) =
    elim (refusal p b.part t.kind) [
      | Some reason ↦ record { progress = b; fault = Some (record { at = t.at; reason = reason }) }
      | None ↦ read_from p (progress_after b t) ts
    ]

-- tokens that are read from the start on
abbrev pub read : Profile → List Token → Read
read p ts = read_from p no_progress ts

-- The position in which a move was rejected, if the fault is about a move. It is the one after all
-- tokens before the move, also inside a variation.
abbrev pub position_at_fault : Read → Option Parts
position_at_fault r = elim r.fault [ None ↦ None | Some f ↦ position_if_move f.reason (position_in r.progress.part) ]

-- the output for progress: the finished games, and of the part its tag section and full lines
abbrev pub written : Profile → Progress → List ℕ
written p b = text_of p b.games ++ torn p b.part

-- the output for tokens, up to the first that is rejected
abbrev pub due : Profile → List Token → List ℕ
due p ts = written p (read p ts).progress

-- the output for the bytes of a text
abbrev pub output : Profile → List ℕ → List ℕ
output p s = due p (tokens_of s)

-- how many games, and how many moves outside variations they have together
pub record Counted : Type 0 where
  pub games : ℕ
  pub plies : ℕ

-- the first fault, or the numbers if there is none
pub data Verdict : Type 0 where
  refused : Fault → Verdict
  totals : Counted → Verdict

-- the verdict on what was read
abbrev pub verdict_of : Read → Verdict
verdict_of r = elim r.fault [ Some f ↦ refused f | None ↦ totals (record { games = length r.progress.games; plies = sum (map plies_of r.progress.games) }) ]

-- the verdict on a text
abbrev pub verdict : Profile → List ℕ → Verdict
verdict p s = verdict_of (read p (tokens_of s))
