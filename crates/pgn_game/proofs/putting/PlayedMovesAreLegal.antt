-- Each move that is read is legal where it stands.
use Rattle.pgn_game.proofs.Words.{◌≡◌, ℕ, Bool, List, [], ◌∷◌, ◌++◌, Option, None, Some, Result, Ok, refl, ◌⊎◌, IsTrue, option_map, list_all, and_from, list_all-append, legal, TheOneMoveIsRead, Parts, Played, SanFault, Kind, Token, Stage, InMovetext, Profile, Pair, Item, Game, Part, move_of, Levels, here, levels_of, start_of, levels_of_part, placed_from, Next, going, whole, next, next_in, in_text, move_item, items_of, Progress, progress_with, progress_after, no_progress, read_from, Form, move_of_form, arith, rules, is_legal_at, plays_legally, MovesAreLegal}
use Rattle.pgn_game.proofs.stepping.OneMoreToken.{by_token}
use Rattle.pgn_game.proofs.putting.ItemsAppended.{placed-append}

-- the items placed there are legal moves, or no moves
abbrev go_on_legally : Parts → Levels → List Item → Bool
go_on_legally start ls items = list_all (λ i. is_legal_at i.position i.item) (placed_from start ls items)

-- no item stands outside movetext
abbrev pub HoldsNone : Stage → List Item → Type 0
HoldsNone InMovetext items = Unit {0}
HoldsNone _ items = items ≡ []

pub none_held : (stage : Stage) (items : List Item) → items ≡ [] → HoldsNone stage items
none_held stage items e = search rules

nothing_to_play : (pairs : List Pair) (items : List Item) → items ≡ [] → IsTrue (plays_legally pairs items)
nothing_to_play pairs items e = rw e refl

abbrev IsLegal : Part → Type 0
IsLegal part = HoldsNone part.stage part.items × IsTrue (plays_legally part.pairs part.items)

abbrev LeadsLegally : Next → Type 0
LeadsLegally (going part) = IsLegal part
LeadsLegally (whole g) = IsTrue (plays_legally g.pairs g.items)

-- a token outside movetext adds no item, or it begins movetext
abbrev pub AddsNone : Next → Type 0
AddsNone (going part) = part.items ≡ []
AddsNone (whole g) = ⊥

pub adds_none : (stage : Stage) (part : Part) (k : Kind) → HoldsNone stage part.items
    → (next_in stage part k ≡ in_text part k) ⊎ AddsNone (next_in stage part k)
adds_none stage part k none = grind arith

leads_none : (nx : Next) → AddsNone nx → LeadsLegally nx
leads_none nx none = search (rules, none_held, nothing_to_play)

more_items : (pairs : List Pair) (items more : List Item) → IsTrue (plays_legally pairs items)
    → IsTrue (go_on_legally (start_of pairs) (levels_of items) more) → IsTrue (plays_legally pairs (items ++ more))
more_items pairs items more h k = grind (arith, and_from, list_all-append, placed-append)

module _ (one_read : TheOneMoveIsRead) where
  -- what a text names is legal
  pub named_is_legal : (p : Parts) (s : List ℕ) (x : Played) → move_of p s ≡ Some (Ok x) → legal p x.mv ≡ Some x.next
  unfolding move_of
  named_is_legal p s x e = by_form _ e
    where
      by_form : (o : Option Form) → option_map (move_of_form p) o ≡ Some (Ok x) → legal p x.mv ≡ Some x.next
      by_form None e = absurd (cc)
      by_form (Some f) e = ((one_read p f x).0 (cc)).1

  item_legal : (start : Parts) (ls : Levels) (s : List ℕ) (o : Option (Result Played SanFault))
      → move_of (here start ls) s ≡ o → IsTrue (go_on_legally start ls (move_item o))
  item_legal start ls s o e = search (rules, and_from, named_is_legal)

  items_legal : (part : Part) (k : Kind) → IsTrue (go_on_legally (start_of part.pairs) (levels_of_part part) (items_of part k))
  items_legal part k = grind (arith, item_legal)

  text_legal : (part : Part) (k : Kind) → IsTrue (plays_legally part.pairs part.items) → LeadsLegally (in_text part k)
  text_legal part k h = search (rules, more_items, items_legal)

  next_legal : (part : Part) (k : Kind) → IsLegal part → LeadsLegally (next part k)
  next_legal part k h2 = search (rules, adds_none, leads_none, text_legal)

  abbrev AllLegal : Progress → Type 0
  AllLegal b = IsTrue (list_all (λ g. plays_legally g.pairs g.items) b.games) × IsLegal b.part

  with_legal : (games : List Game) (nx : Next) → IsTrue (list_all (λ g. plays_legally g.pairs g.items) games) → LeadsLegally nx
      → AllLegal (progress_with games nx)
  with_legal games nx h k = search (rules, and_from, list_all-append)

  read_legal : (p : Profile) (b : Progress) (ts : List Token) → AllLegal b → AllLegal (read_from p b ts).progress
  read_legal p b [] h = h
  read_legal p b (t ∷ ts) h =
      by_token p b t ts (λ r. AllLegal r.progress) (λ reason is. h)
      (λ is. read_legal p (progress_after b t) ts (with_legal b.games (next _ t.kind) h.0 (next_legal _ _ h.1)))

  pub moves_legal : MovesAreLegal
  moves_legal p ts =
      let all = read_legal p no_progress ts (refl, (refl, refl)) in search rules
