-- The text of a move that a game has: a symbol that names the same move again, after its number.
use Rattle.pgn_game.proofs.Words.{◌≡◌, ℕ, ◌<◌, ◌≤◌, ◌^◌, Bool, true, false, List, [], ◌∷◌, ◌++◌, refl, ap, arith, None, Some, ◌||◌, not, decimal, bytes_eq, is_none, unwrap_or, IsTrue, IsFalse, Ok, if◌then◌else◌, AllByRecursion, list_all, false≢true, or_parts, and_parts, and_from, leb-true, Move, LeavesPosition, is_position, TheOneMoveIsRead, is_move_byte, begins_with_letter, IsMoveSymbol, WrittenMoveIsSymbol, WrittenMoveIsRead, starts_symbol, continues_symbol, NumbersAreSymbols, begins_with, IsSymbol, CommentsClose, move_of, text_of_move, play, is_number, is_score, Parts, Played, Kind, Item, Profile, Level, replayed, without_last, Names, SpellsText, token, number, period, number_before, rules}
use Rattle.chess_rules.specs.declared.position.PositionFault.TheVariants.{Kings, PawnOnEdge, KingCapturable, TargetRank, NumberRange}
use Rattle.pgn_lexer.specs.Tokens as tokens
use Rattle.pgn_game.proofs.putting.PlayedMovesAreLegal.{named_is_legal}
use Rattle.pgn_game.proofs.exporting.PiecesToTokens.{IsWritable, AllShown, next_shown, white, black}

-- Positions: the fullmove number is at most 99,999.
last_test : (a b c d : Bool) {e : Bool} → is_none (if a then Some Kings else if b then Some PawnOnEdge else if c then Some KingCapturable
    else if d then Some TargetRank else if not e then Some NumberRange else None) ≡ true
    → e ≡ true
last_test a b c d h = grind (arith, false≢true)

pub full_fits : (q : Parts) → IsTrue (is_position q) → q.full ≤ 99999
full_fits q e = grind (arith, and_parts, leb-true, last_test)

-- All positions that the moves of a trail lead through are positions.
abbrev pub ArePositions : Parts → List Move → Type 0
ArePositions first [] = IsTrue (is_position first)
ArePositions first (m ∷ ms) = IsTrue (is_position (replayed first (m ∷ ms))) × ArePositions first ms

pub last_position : (first : Parts) (trail : List Move) → ArePositions first trail → IsTrue (is_position (replayed first trail))
last_position first [] h = h
last_position first (m ∷ ms) h = h.0

pub earlier_positions : (first : Parts) (trail : List Move) → ArePositions first trail → ArePositions first (without_last trail)
earlier_positions first trail h = search rules

-- Bytes of a move's text.
each_of : (f g : ℕ → Bool) (s : List ℕ) → ((c : ℕ) → f c ≡ true → g c ≡ true) → list_all f s ≡ true → list_all g s ≡ true
each_of f g [] h e = refl
each_of f g (c ∷ s) h e = let both = and_parts (f c) (list_all f s) e in and_from (g c) (list_all g s) (h c both.0) (each_of f g s h both.1)

continues : (letter digit underscore plus hash equals colon hyphen slash : Bool) → (letter || digit || plus || hash || equals || hyphen) ≡ true
    → ((letter || digit) || underscore || plus || hash || equals || colon || hyphen || slash) ≡ true
continues letter digit underscore plus hash equals colon hyphen slash h1 = search (rules, false≢true)

move_byte : (c : ℕ) → is_move_byte c ≡ true → continues_symbol c ≡ true
move_byte c = search (rules, continues)

begins : (s : List ℕ) → IsTrue (begins_with_letter s) → IsTrue (begins_with starts_symbol s)
begins s e = search (rules, false≢true)

as_symbol : {s : List ℕ} → IsMoveSymbol s → IsSymbol s
as_symbol {s} h = search (rules, begins, each_of, move_byte)

no_score : (s : List ℕ) → IsMoveSymbol s → IsFalse (is_score s)
no_score s h = (or_parts _ (bytes_eq s _) h.no_marker).0

-- The kinds of the number before a move.
abbrev pub number_kinds : Bool → Bool → ℕ → List Kind
number_kinds is_after_move false n = tokens.symbol (decimal n) ∷ tokens.period ∷ []
number_kinds false true n = tokens.symbol (decimal n) ∷ tokens.period ∷ tokens.period ∷ tokens.period ∷ []
number_kinds true true n = []

pub number_shown : (b is_black : Bool) (n : ℕ) {ks : List Kind} {ts : List (List ℕ)}
    → AllShown ks ts → AllShown (number_kinds b is_black n ++ ks) (number_before b is_black n ++ ts)
number_shown b is_black n h = search (rules, next_shown, white, black)

pub number_closes : (b is_black : Bool) (n : ℕ) (more : List Kind)
    → CommentsClose false more → CommentsClose false (number_kinds b is_black n ++ more)
number_closes b is_black n more h = search rules

-- the laws that the text of a move rests on
pub record MoveLaws : Type 0 where
  pub one_read : TheOneMoveIsRead
  pub leaves : LeavesPosition
  pub is_symbol : WrittenMoveIsSymbol
  pub is_read : WrittenMoveIsRead
  pub numbers : NumbersAreSymbols

module _ (laws : MoveLaws) where
  -- a move that is named leaves a position
  pub plays_on : (first : Parts) (trail : List Move) (s : List ℕ) (x : Played)
      → Names (replayed first trail) s x → ArePositions first trail → ArePositions first (x.mv ∷ trail)
  unfolding play
  plays_on first trail s x names h =
      let at = replayed first trail in
      let is_legal = named_is_legal laws.one_read at s x names.one in
      (rw (ap (λ o. unwrap_or o at) is_legal) (laws.leaves at x.next x.mv (last_position first trail h) is_legal), h)

  pub move_symbol : (at : Parts) {s : List ℕ} (x : Played) → Names at s x → IsMoveSymbol (text_of_move at x.mv)
  unfolding text_of_move
  move_symbol at x names = let one_read = laws.one_read in let is_symbol = laws.is_symbol in search (rules, named_is_legal)

  pub writable_move : (at : Parts) {s : List ℕ} (x : Played) → Names at s x → IsWritable (tokens.symbol (text_of_move at x.mv))
  writable_move at x names = as_symbol (move_symbol at x names)

  reads_again : (at : Parts) (s : List ℕ) (x : Played) → IsTrue (is_position at)
      → Names at s x → move_of at (text_of_move at x.mv) ≡ Some (Ok x)
  unfolding text_of_move move_of
  reads_again at s x h names = laws.is_read at _ x.mv h (named_is_legal laws.one_read at s x names.one)

  pub names_again : (at : Parts) (s : List ℕ) (x : Played) → IsTrue (is_position at) → Names at s x → Names at (text_of_move at x.mv) x
  names_again at s x h names =
      let symbol = move_symbol at x names in search (rules, no_score, reads_again)

  number_is_symbol : (at : Parts) → IsTrue (is_position at) → IsSymbol (decimal at.full) × IsTrue (is_number (decimal at.full))
  number_is_symbol at h = let fits = full_fits at h in let small : at.full < 2 ^ 64 = omega arith in laws.numbers _ small

  pub number_spells : {p : Profile} {first : Parts} (at : Parts) {deep : ℕ} (l : Level) (b is_black : Bool) {ks : List Kind} {items : List Item}
      → IsTrue (is_position at) → SpellsText p first deep l ks items → SpellsText p first deep l (number_kinds b is_black at.full ++ ks) items
  number_spells at {deep} l b false {ks} {items} h text =
      token deep l _ _ [] items (number _ (number_is_symbol at h).1) (token deep l _ ks [] items period text)
  number_spells at {deep} l false true {ks} {items} h text =
      token deep l _ _ [] items (number _ (number_is_symbol at h).1) (token deep l _ _ [] items period
      (token deep l _ _ [] items period (token deep l _ ks [] items period text)))
  number_spells at l true true h text = text

  pub number_writable : (at : Parts) (b is_black : Bool) → IsTrue (is_position at) → AllByRecursion IsWritable (number_kinds b is_black at.full)
  number_writable at b is_black h = search (rules, number_is_symbol)
