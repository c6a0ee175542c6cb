-- How many pairs were tried for a token: from what the reader counts to what is said of tokens.
use Rattle.pgn_game.proofs.stepping.OneMoreToken.{goes_on}
use Rattle.pgn_lexer.specs.Tokens as tokens
use Rattle.pgn_game.proofs.Words.{Parts, Kind, Token, Mode, Reason, InMovetext, Profile, ◌≡◌, ◌⊎◌, ℕ, ◌<◌, max, Bool, true, false, ◌||◌, List, [], ◌∷◌, ◌++◌, Option, None, Some, is_some, Result, Ok, Err, refl, sym, subst, arith, IsTrue, drop-append_seam, drop-length, and_right, or_right, false≢true, Move, Accepted, depth, refusal, is_at, is_number, is_outside_tag_pairs, is_score, levels_of_part, marker_of, position_in, Next, going, Progress, progress_after, read_from, read, Costs, CostsIf, CostsToFind, is_written, CostsToWrite, added, CostsToAdd, Tries, MostFrom, MostTried, Raises, has_move, GameState, Agrees, IsOpen, may_have_movetext, with_items, TriesItem, mode_written, LexReason, is_move, Item, Part, rules, common_steps}
use Rattle.pgn_game.specs.games.Game.{move}
use Rattle.pgn_game.specs.public.MostTried as most_tried
use Rattle.pgn_game.proofs.refusals.RefusalsInMovetext.{depth_is, position_is}
use Rattle.pgn_game.proofs.refusals.ReaderToPart.{held_at, text_at}

-- Tokens in turn.
-- what is tried for tokens, and for those behind them
module _ (silent : Bool) (p : Profile) where
  pub most_then : {b : Progress} {ts : List Token} {most : ℕ} → MostFrom silent p b ts most → (us : List Token) (n : ℕ)
      → (read_from p b ts).fault ≡ None → MostFrom silent p (read_from p b ts).progress us n → MostFrom silent p b (ts ++ us) (max most n)
  most_then (most_tried.none c) us n clear then = let most_of_one : n ≡ max 0 n = omega arith in subst (MostFrom silent p c us) most_of_one then
  most_then (most_tried.refused c x xs m reason some h) us n clear then = cc
  most_then (most_tried.passes c x xs m rest is h more) us n clear then =
      let same : read_from p c (x ∷ xs) ≡ read_from p (progress_after c x) xs = goes_on p c x xs is in
      let again : max m (max rest n) ≡ max (max m rest) n = omega arith in
      subst (MostFrom silent p c (x ∷ xs ++ us)) again (most_tried.passes c x (xs ++ us) m (max rest n) is h
      (most_then more us n (rw same at clear) (rw same at then)))

  -- so from the start on: a token more, and one that is rejected, whatever comes behind it
  pub most_with : {given : List Token} (t : Token) {old new : ℕ} → MostTried silent p given old → (read p given).fault ≡ None
      → refusal p (read p given).progress.part t.kind ≡ None → Raises (Tries silent p (read p given).progress.part t.kind) old new
      → MostTried silent p (given ++ t ∷ []) new
  most_with {given} t before clear free raised =
      let b = (read p given).progress in
      let one = most_tried.passes b t [] raised.tried 0 free raised.allowed (most_tried.none (progress_after b t)) in
      let least : max raised.tried 0 ≡ raised.tried = omega arith in
      let then = subst (MostFrom silent p b (t ∷ [])) least one in search (rules, most_then)

  pub most_to_refused : {given : List Token} (t : Token) (us : List Token) {why : Reason} {old new : ℕ} → MostTried silent p given old
      → (read p given).fault ≡ None → refusal p (read p given).progress.part t.kind ≡ Some why
      → Raises (Tries silent p (read p given).progress.part t.kind) old new → MostTried silent p (given ++ t ∷ us) new
  most_to_refused {given} t us {why} before clear is raised =
      let then = most_tried.refused (read p given).progress t us raised.tried why is raised.allowed in search (rules, most_then)

pub raises_none : {silent : Bool} {p : Profile} {part : Part} {r : LexReason} {why : Reason} {most : ℕ} → refusal p part (tokens.refused r) ≡ Some why
    → Raises (Tries silent p part (tokens.refused r)) most most
raises_none is = search rules

-- some pair was tried if a move is in the part
pub part_probed : (r : GameState) {part : Part} → Agrees r part → IsTrue (has_move part.items) → 0 < r.most_probes
part_probed r agrees = search (rules, held_at, text_at)

-- No pair is tried for a symbol in a tag pair, nor for a number and a marker.
costs_nothing : {sought : Bool} (place : Parts) (s : List ℕ) → sought ≡ false → CostsIf sought place s 0
costs_nothing place s none = subst (λ (b : Bool). CostsIf b place s 0) (sym none) refl

module _ (part : Part) where
  pub untried_in_pair : (k : Kind) → is_outside_tag_pairs part ≡ false → CostsToFind part k 0
  untried_in_pair k inside = search (rules, costs_nothing)

  pub plain_untried : (s : List ℕ) → (is_score s || is_number s) ≡ true → CostsToFind part (tokens.symbol s) 0
  plain_untried s plain = search (rules, costs_nothing, and_right)

  pub number_untried : (s : List ℕ) → is_number s ≡ true → CostsToFind part (tokens.symbol s) 0
  number_untried s number = plain_untried s (or_right (is_score s) (is_number s) number)

  pub marker_untried : (k : Kind) → IsTrue (is_some (marker_of k)) → CostsToFind part k 0
  marker_untried k h1 = search (rules, and_right, costs_nothing, false≢true)

-- The move of another symbol is sought where movetext can begin or goes on.
pub costs_found : {r : GameState} {part : Part} (s : List ℕ) (n : ℕ) → IsOpen r part
    → IsTrue (may_have_movetext r.stage) → is_number s ≡ false → is_score s ≡ false
    → Costs r.text.levels.current.position s n → CostsToFind part (tokens.symbol s) n
costs_found s n is at number score costs = search (rules, false≢true, position_is)

-- An item is written at the cost that its place has.
item_held : (r : GameState) {to : Part} (i : Item) (n k : ℕ) → IsOpen r to → TriesItem (mode_written r) r.text i n k
    → CostsToWrite (is_written (mode_written r) (depth (levels_of_part to)) i) (position_in to) i n k
item_held r {to} i n k is h = grind (arith, common_steps, depth_is, position_is)

untried : (b : Bool) (place : Parts) (i : Item) {n k : ℕ} → is_move i ≡ false → k ≡ n → CostsToWrite b place i n k
untried b place i plain h1 = grind (arith, common_steps)

-- The pairs tried before what is written of a token, and after. Where a write of the tag section
-- failed, none was tried.
abbrev pub CostsToPut : Option Mode → Part → Next → ℕ → ℕ → Type 0
CostsToPut mode part to n k = CostsToAdd mode (depth (levels_of_part part)) (position_in part) (added part to) n k

abbrev pub TriesPut : Option Mode → Part → Next → Result Accepted Reason → ℕ → ℕ → Type 0
TriesPut mode part to (Ok accepted) n k = CostsToPut mode part to n k
TriesPut mode part to (Err reason) n k = CostsToPut mode part to n k ⊎ ((is_at InMovetext part ≡ false) × (k ≡ n))

module _ (mode : Option Mode) (part : Part) where
  pub tries_put : (to : Next) (r : Result Accepted Reason) (n k : ℕ) → CostsToPut mode part to n k → TriesPut mode part to r n k
  tries_put to r n k costs = search rules

  -- an item other than a move, and none; and a token that leaves the items as they are
  adds_items : (items : List Item) (n k : ℕ) → CostsToAdd mode (depth (levels_of_part part)) (position_in part) items n k
      → CostsToPut mode part (going (with_items part items)) n k
  adds_items items n k costs = grind (arith, common_steps, drop-append_seam)

  pub adds_none : CostsToPut mode part (going (with_items part [])) 0 0
  adds_none = adds_items [] 0 0 refl

pub adds_item : (mode : Option Mode) (i : Item) (part : Part) → is_move i ≡ false → CostsToPut mode part (going (with_items part (i ∷ []))) 0 0
adds_item mode i part plain = search (rules, adds_items, untried)

pub adds_same : (mode : Option Mode) (part : Part) (to : Part) → to.items ≡ part.items → CostsToPut mode part (going to) 0 0
adds_same mode part to same = grind (arith, common_steps, drop-length)

pub adds_move : (r : GameState) (part : Part) (m : Move) (n k : ℕ) → IsOpen r part → TriesItem (mode_written r) r.text (move m) n k
    → CostsToPut (mode_written r) part (going (with_items part (move m ∷ []))) n k
adds_move r part m n k is tries = adds_items (mode_written r) part (move m ∷ []) n k (item_held r (move m) n k is tries)
