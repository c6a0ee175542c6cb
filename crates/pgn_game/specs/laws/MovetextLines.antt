-- **Definition**: the law that movetext is on the lines that its tokens have (PGN 8.2.1, 8.2.6).
-- Letters: p is the profile, g a game, s a text.
use Rattle.std.specs.Prelude.{◌≡◌, ℕ, List, [], ◌∷◌, ◌++◌, All}
use Rattle.std.specs.List.{AllByRecursion}
use Rattle.pgn_layout.specs.Lines.{IsToken, Lines, full_lines, text_of as text_of_lines}
use Rattle.pgn_lexer.specs.TokensOf.{tokens_of}
use Rattle.pgn_game.specs.games.Profile.{Profile}
use Rattle.pgn_game.specs.games.Game.{Game, Part}
use Rattle.pgn_game.specs.games.FaultTable.{result_for}
use Rattle.pgn_game.specs.games.Levels.{start_of}
use Rattle.pgn_game.specs.export.TagSection.{tag_section}
use Rattle.pgn_game.specs.export.Text.{tokens_out, game_text, full_text}
use Rattle.pgn_game.specs.games.Progress.{read}

-- the movetext tokens of a game, with its termination marker last (PGN 8.2.6)
abbrev pub game_tokens : Profile → Game → List (List ℕ)
game_tokens p g = tokens_out p.mode (start_of g.pairs) g.items ++ g.marker ∷ []

-- the movetext tokens so far of a game that is not finished
abbrev pub part_tokens : Profile → Part → List (List ℕ)
part_tokens p part = tokens_out p.mode (start_of part.pairs) part.items

-- Each token has 1 to 79 bytes. On each line its tokens are joined by single spaces. A line has at
-- most 79 bytes, and with a space and the next token it would have more.
pub record AreOnLines (tokens lines : List (List ℕ)) : Type 0 where
  pub each : All IsToken tokens
  pub joined : Lines tokens lines

-- The text of the game is its tag section, such lines of its tokens, and an empty line.
pub record GameIsOnLines (p : Profile) (g : Game) : Type 0 where
  pub lines : List (List ℕ)
  pub on : AreOnLines (game_tokens p g) lines
  pub text : game_text p g
      ≡ tag_section p.mode (result_for p.missing_result g.marker) g.pairs
      ++ text_of_lines lines ++ 10 ∷ []

-- What is written of the movetext of a game that is not finished is such lines, without the last.
pub record PartIsOnLines (p : Profile) (part : Part) : Type 0 where
  pub lines : List (List ℕ)
  pub on : AreOnLines (part_tokens p part) lines
  pub text : full_text p.mode (start_of part.pairs) part.items ≡ text_of_lines (full_lines lines)

-- Each game that is read of a text is on such lines, and so is the part of a game after them. The
-- output is their text.
abbrev pub MovetextIsOnLines : Type 0
MovetextIsOnLines = (p : Profile) (s : List ℕ)
    → AllByRecursion (GameIsOnLines p) (read p (tokens_of s)).progress.games
    × PartIsOnLines p (read p (tokens_of s)).progress.part
