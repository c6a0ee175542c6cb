-- **Definition**: how many pairs of an origin and a target are tried for a token, and the most that
-- are tried for one token of an input. A reader that is silent writes nothing: it tries pairs only
-- to find moves.
--
-- No order of search is stated. `Costs` says how many pairs find the move of a text, and
-- `MarkPairs` of `chess_text` how many find the mark of its SAN. Both are exact, unless a form has
-- more than one legal move, or a check is no mate.
-- Letters: p is the profile, b the progress, k the kind of a token, s the text of a symbol, i an
-- item, t a token, ts are tokens, n and m are numbers of pairs.
use Rattle.std.specs.Prelude.{◌≡◌, ℕ, ◌+◌, max, Bool, true, false, ◌&&◌, ◌||◌, not, List, [], ◌∷◌, ◌==◌, length, drop, Option, None, Some}
use Rattle.chess_rules.specs.declared.position.Parts.{Parts}
use Rattle.chess_text.specs.San.{MarkPairs, disambiguation_pairs}
use Rattle.pgn_lexer.specs.Tokens as tokens
use Rattle.pgn_lexer.specs.Tokens.{Kind, Token}
use Rattle.pgn_game.specs.declared.mode.Mode.{Mode}
use Rattle.pgn_game.specs.declared.mode.Mode.TheVariants.{Full, Reduced}
use Rattle.pgn_game.specs.declared.stage.Stage.TheVariants.{InMovetext}
use Rattle.pgn_game.specs.declared.reason.Reason.{Reason}
use Rattle.pgn_game.specs.games.Profile.{Profile}
use Rattle.pgn_game.specs.public.Written.{mode_unless}
use Rattle.pgn_game.specs.games.Chess.{play}
use Rattle.pgn_game.specs.games.Game.{Item, move, Part}
use Rattle.pgn_game.specs.games.Levels.{depth}
use Rattle.pgn_game.specs.export.Text.{is_move}
use Rattle.pgn_game.specs.games.FaultTable.{refusal, is_at, is_number, is_outside_tag_pairs, is_score, levels_of_part, position_in}
use Rattle.pgn_game.specs.games.Progress.{Next, going, whole, next, Progress, no_progress, progress_after}
use Rattle.pgn_game.specs.public.Tried.{Costs}

-- The move of a symbol is sought where movetext can begin or go on, unless the symbol is a marker
-- or a number. It is also sought if another row of the table rejects the symbol.
abbrev pub is_sought : Part → List ℕ → Bool
is_sought part s = is_outside_tag_pairs part && not (is_score s || is_number s)

-- n pairs are tried for the move of a text, if it is sought
abbrev pub CostsIf : Bool → Parts → List ℕ → ℕ → Type 0
CostsIf true here s n = Costs here s n
CostsIf false here s n = n ≡ 0

-- n pairs are tried to find the move of a token, also if the token is rejected then
abbrev pub CostsToFind : Part → Kind → ℕ → Type 0
CostsToFind part (tokens.symbol s) n = CostsIf (is_sought part s) (position_in part) s n
CostsToFind part k n = n ≡ 0

-- Whether an item at this depth is written by a mode: in the reduced format only a move outside
-- variations (PGN 3.2.4). Without a mode nothing is written.
abbrev pub is_written : Option Mode → ℕ → Item → Bool
is_written None deep i = false
is_written (Some Full) deep i = true
is_written (Some Reduced) deep i = is_move i && (deep == 0)

-- n pairs are tried before an item is written, and m once it is. A move that is written takes one
-- for each candidate of its piece, unless this is a king or a pawn, and those of its mark.
abbrev pub CostsToWrite : Bool → Parts → Item → ℕ → ℕ → Type 0
CostsToWrite true here (move mv) n m = MarkPairs (play here mv) (n + disambiguation_pairs here mv) m
CostsToWrite _ here i n m = m ≡ n

-- the items that a token adds to its part: one, or none
abbrev pub added : Part → Next → List Item
added part (going to) = drop (length part.items) to.items
added part (whole g) = []

-- what writing the items costs that a token adds, at this depth and in this position
abbrev pub CostsToAdd : Option Mode → ℕ → Parts → List Item → ℕ → ℕ → Type 0
CostsToAdd mode deep here [] n m = m ≡ n
CostsToAdd mode deep here (i ∷ more) n m = CostsToWrite (is_written mode deep i) here i n m

-- the same, unless the token is rejected: then nothing is written
abbrev pub CostsUnlessRefused : Option Reason → Option Mode → ℕ → Parts → List Item → ℕ → ℕ → Type 0
CostsUnlessRefused None mode deep here items n m = CostsToAdd mode deep here items n m
CostsUnlessRefused (Some reason) mode deep here items n m = m ≡ n

-- For a token after a part n pairs are tried: first to find its move, then, unless the token is
-- rejected, to write it.
pub record Tries (silent : Bool) (p : Profile) (part : Part) (k : Kind) (n : ℕ) : Type 0 where
  pub found : ℕ
  pub finds : CostsToFind part k found
  pub writes : CostsUnlessRefused (refusal p part k) (mode_unless silent p.mode)
      (depth (levels_of_part part)) (position_in part) (added part (next part k)) found n

-- The same for a token whose text could not be written: its pairs were tried before that. But if
-- movetext begins with it, the tag section is written first, and that may be what failed. Then no
-- pair was tried to write the token, so two numbers are possible.
pub data TriesUnwritten (silent : Bool) (p : Profile) (part : Part) (k : Kind) (n : ℕ) : Type 0 where
  at_token : Tries silent p part k n → TriesUnwritten silent p part k n
  in_section : is_at InMovetext part ≡ false → CostsToFind part k n → TriesUnwritten silent p part k n

-- The most pairs that are tried for one of these tokens, which are read after this progress. No
-- token is read after the first that is rejected.
pub data MostFrom (silent : Bool) (p : Profile) : Progress → List Token → ℕ → Type 0 where
  none : (b : Progress) → MostFrom silent p b [] 0
  refused : (b : Progress) (t : Token) (ts : List Token) (n : ℕ) (reason : Reason)
      → refusal p b.part t.kind ≡ Some reason → Tries silent p b.part t.kind n → MostFrom silent p b (t ∷ ts) n
  passes : (b : Progress) (t : Token) (ts : List Token) (n most : ℕ) → refusal p b.part t.kind ≡ None
      → Tries silent p b.part t.kind n → MostFrom silent p (progress_after b t) ts most
      → MostFrom silent p b (t ∷ ts) (max n most)

-- the most pairs that are tried for one of these tokens, which are read from the start on
abbrev pub MostTried : (silent : Bool) → Profile → List Token → ℕ → Type 0
MostTried silent p ts most = MostFrom silent p no_progress ts most

-- `old` is the most before a token, and `new` with it
pub record Raises (IsTried : ℕ → Type 0) (old new : ℕ) : Type 0 where
  pub tried : ℕ
  pub allowed : IsTried tried
  pub most : new ≡ max old tried
