-- **Definition**: which tokens spell which games: a grammar (PGN 18).
-- The function `read` reads games without it. The grammar knows no stage, no rejection and no order
-- of reading; the law `UniqueReading` joins the two.
-- Letters: p is the profile, ks and ls are kinds of tokens, q and qs pairs, g and gs games, l is a
-- level, s a text.
use Rattle.std.specs.Prelude.{◌≡◌, ℕ, ◌+◌, ◌<◌, ◌≤◌, IsTrue, IsFalse, true, false, List, [], ◌∷◌, ◌++◌, map, length, Option, None, Some, Ok, codes}
use Rattle.std.specs.List.{AllByRecursion, fold, list_all}
use Rattle.chess_rules.specs.declared.position.Move.{Move}
use Rattle.chess_rules.specs.declared.position.Parts.{Parts}
use Rattle.chess_rules.specs.declared.position.Played.{Played}
use Rattle.pgn_layout.specs.TagLine.{escaped}
use Rattle.pgn_lexer.specs.Tokens as tokens
use Rattle.pgn_lexer.specs.Tokens.{Kind, Token}
use Rattle.pgn_game.specs.declared.mode.Mode.{Mode}
use Rattle.pgn_game.specs.declared.mode.Mode.TheVariants.{Full}
use Rattle.pgn_game.specs.games.Profile.{Profile, Missing, counts_as, takes_the_marker}
use Rattle.pgn_game.specs.games.Pairs.{Pair, value_of, has_pair, insert_pair}
use Rattle.pgn_game.specs.games.Chess.{position_of, move_of}
use Rattle.pgn_game.specs.games.Game as games
use Rattle.pgn_game.specs.games.Game.{Item, Game}
use Rattle.pgn_game.specs.games.Levels.{Level, without_last, replayed, start_of}
use Rattle.pgn_game.specs.games.FaultTable.{is_comment, in_name, is_score, is_result, marker_of, is_number, is_at_limit}

-- Tag pairs (PGN 8.1).

-- comments that are dropped
abbrev pub AreDropped : List Kind → Type 0
AreDropped ks = IsTrue (list_all is_comment ks)

-- `[`, a name, a value, `]`, and comments anywhere between them
pub data SpellsPair : List Kind → Pair → Type 0 where
  pair : (xs ys zs : List Kind) (name value : List ℕ) → AreDropped xs → AreDropped ys → AreDropped zs
      → SpellsPair (tokens.left_bracket ∷ (xs ++ tokens.symbol name ∷ (ys ++ tokens.str value ∷ (zs ++ tokens.right_bracket ∷ [])))) (record { name = name; value = value })

-- one pair after another
pub data SpellsPairs : List Kind → List Pair → Type 0 where
  no_pair : SpellsPairs [] []
  next_pair : (ks ls : List Kind) (q : Pair) (qs : List Pair) → SpellsPair ks q → SpellsPairs ls qs → SpellsPairs (ks ++ ls) (q ∷ qs)

-- Letters, digits and _ make a name; it has at least one byte, as every symbol. Name and escaped
-- value have at most 249 bytes together, so that the line of the pair has at most 255. The value of
-- a Result is a marker. The value of a FEN is a FEN (PGN 16.1), and in the reduced format there is
-- none.
pub record IsPair (mode : Mode) (q : Pair) : Type 0 where
  pub name : IsTrue (list_all in_name q.name)
  pub room : length q.name + length (escaped q.value) ≤ 249
  pub result : q.name ≡ codes "Result" → IsTrue (is_result q.value)
  pub fen : q.name ≡ codes "FEN" → (mode ≡ Full) × (start : Parts) × (position_of q.value ≡ Ok start)

-- no name is given twice
abbrev pub AreDistinct : List Pair → Type 0
AreDistinct [] = Unit {0}
AreDistinct (q ∷ qs) = IsFalse (has_pair qs q.name) × AreDistinct qs

-- The pairs are at most as many as the profile allows, each keeps to the rules for a pair, and no
-- name is given twice.
pub record KeepsTags (p : Profile) (qs : List Pair) : Type 0 where
  pub count : length qs ≤ p.tags
  pub each : AllByRecursion (IsPair p.mode) qs
  pub distinct : AreDistinct qs

-- the pairs in the order of their names
abbrev pub by_name : List Pair → List Pair
by_name qs = fold (λ sorted q. insert_pair q sorted) [] qs

-- a game whose SetUp is 1 has a FEN (PGN 9.7)
abbrev pub IsSetUp : List Pair → Type 0
IsSetUp ps = value_of ps (codes "SetUp") ≡ Some (codes "1") → IsTrue (has_pair ps (codes "FEN"))

-- Movetext (PGN 8.2).

-- A token that may be anywhere in movetext, and the item that it is. Numbers and periods are none:
-- they decide nothing (PGN 8.2.2.1).
pub data StandsFor : Kind → List Item → Type 0 where
  number : (s : List ℕ) → IsTrue (is_number s) → StandsFor (tokens.symbol s) []
  period : StandsFor tokens.period []
  glyph : (n : ℕ) → StandsFor (tokens.glyph n) (games.glyph n ∷ [])
  comment_open : StandsFor tokens.comment_open (games.comment_open ∷ [])
  word : (s : List ℕ) → StandsFor (tokens.word s) (games.word s ∷ [])
  comment_close : StandsFor tokens.comment_close (games.comment_close ∷ [])

-- The symbol, no number and no marker, is the text of one legal move (PGN 8.2.3). No move of Black
-- has the number 99,999.
pub record Names (at : Parts) (s : List ℕ) (played : Played) : Type 0 where
  pub no_number : IsFalse (is_number s)
  pub no_marker : IsFalse (is_score s)
  pub one : move_of at s ≡ Some (Ok played)
  pub within : IsFalse (is_at_limit at)

-- nothing is played yet: at the beginning of a game, and of a variation, which replaces the last
-- move before it
abbrev pub new_level : List Move → Level
new_level trail = record { trail = trail; has_own_move = false }

-- a level after a move, which is its own
abbrev pub level_after_move : Move → List Move → Level
level_after_move m trail = record { trail = m ∷ trail; has_own_move = true }

-- The tokens of a game, or of one variation, from one place in it to its end. There so many
-- variations are open, and the moves of the level lead there from the first position. A variation
-- comes after a move, and is movetext itself (PGN 8.2.5).
pub data SpellsText (p : Profile) (first : Parts) : ℕ → Level → List Kind → List Item → Type 0 where
  no_more : (deep : ℕ) (l : Level) → SpellsText p first deep l [] []
  token : (deep : ℕ) (l : Level) (k : Kind) (ks : List Kind) (item items : List Item) → StandsFor k item → SpellsText p first deep l ks items
      → SpellsText p first deep l (k ∷ ks) (item ++ items)
  move : (deep : ℕ) (l : Level) (s : List ℕ) (played : Played) (ks : List Kind) (items : List Item) → Names (replayed first l.trail) s played
      → SpellsText p first deep (level_after_move played.mv l.trail) ks items → SpellsText p first deep l (tokens.symbol s ∷ ks) (games.move played.mv ∷ items)
  variation : (deep : ℕ) (l : Level) (ks ls : List Kind) (items more : List Item) → IsTrue l.has_own_move → deep < p.depth
      → SpellsText p first (deep + 1) (new_level (without_last l.trail)) ks items → SpellsText p first deep l ls more
      → SpellsText p first deep l (tokens.left_paren ∷ (ks ++ tokens.right_paren ∷ ls)) (games.open_variation ∷ (items ++ games.close_variation ∷ more))

-- Games.

-- the first token is no comment
abbrev pub BeginsBare : List Kind → Type 0
BeginsBare [] = Unit {0}
BeginsBare (k ∷ ks) = IsFalse (is_comment k)

-- the marker is the Result, or the value of a missing one
abbrev pub IsResult : Missing → Option (List ℕ) → List ℕ → Type 0
IsResult missing (Some value) marker = marker ≡ value
IsResult (counts_as text) None marker = marker ≡ text
IsResult takes_the_marker None marker = Unit {0}

-- A game: comments that are dropped, pairs, movetext, and a marker outside all variations. Without
-- pairs its first comments are dropped too.
pub record SpellsGame (p : Profile) (ks : List Kind) (g : Game) : Type 0 where
  pub before : List Kind
  pub tags : List Kind
  pub text : List Kind
  pub last : Kind
  pub given : List Pair
  pub tokens : ks ≡ before ++ (tags ++ (text ++ last ∷ []))
  pub dropped : AreDropped before
  pub pairs : SpellsPairs tags given
  pub keeps : KeepsTags p given
  pub sorted : g.pairs ≡ by_name given
  pub set_up : IsSetUp g.pairs
  pub bare : given ≡ [] → BeginsBare text
  pub items : SpellsText p (start_of g.pairs) 0 (new_level []) text g.items
  pub marker : marker_of last ≡ Some g.marker
  pub result : IsResult p.missing_result (value_of g.pairs (codes "Result")) g.marker

-- games, then comments that are dropped, and the end of the text
pub data SpellsGames (p : Profile) : List Kind → List Game → Type 0 where
  no_game : (ks : List Kind) → AreDropped ks → SpellsGames p (ks ++ tokens.end ∷ []) []
  next_game : (ks ls : List Kind) (g : Game) (gs : List Game) → SpellsGame p ks g → SpellsGames p ls gs → SpellsGames p (ks ++ ls) (g ∷ gs)

-- the tokens spell the games, by their kinds alone
abbrev pub Spells : Profile → List Token → List Game → Type 0
Spells p ts gs = SpellsGames p (map (λ t. t.kind) ts) gs
