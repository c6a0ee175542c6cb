-- Tokens that are read to their end, as a relation: which games they finish from a part on.
use Rattle.pgn_game.proofs.Words.{◌≡◌, ℕ, false, List, [], ◌∷◌, ◌++◌, map, None, refl, sym, ap, ◌∙◌, append_assoc, append-nil, ◌↔◌, IsLast, RisesTo, Kind, Token, Stage, Between, AfterLeftBracket, AfterName, AfterValue, Profile, Pair, Item, Game, Part, no_part, refusal, is_end, Next, going, whole, next, Progress, no_progress, progress_with, progress_after, read_from, read, rules}
use Rattle.pgn_lexer.specs.Tokens as tokens
use Rattle.pgn_game.proofs.stepping.OneMoreToken.{first_passes, goes_on}

abbrev pub at : Stage → List Pair → List ℕ → List Item → Part
at stage ps name items = record { stage = stage; pairs = ps; name = name; items = items }

-- None is rejected, only the last is the end, and from this part on they finish these games.
pub data Runs (p : Profile) : Part → List Kind → List Game → Type 0 where
  ends : (part : Part) → refusal p part tokens.end ≡ None → Runs p part (tokens.end ∷ []) []
  goes : (part to : Part) (k : Kind) (ks : List Kind) (gs : List Game)
      → refusal p part k ≡ None → is_end k ≡ false → next part k ≡ going to → Runs p to ks gs → Runs p part (k ∷ ks) gs
  finishes : (part : Part) (k : Kind) (g : Game) (ks : List Kind) (gs : List Game)
      → refusal p part k ≡ None → is_end k ≡ false → next part k ≡ whole g → Runs p no_part ks gs → Runs p part (k ∷ ks) (g ∷ gs)

abbrev pub kinds : List Token → List Kind
kinds ts = map (λ t. t.kind) ts

-- From reading to the relation.

-- what was read finished these games, behind those before
pub record Read_on (p : Profile) (b : Progress) (ts : List Token) (gs : List Game) : Type 0 where
  pub same : (read_from p b ts).progress.games ≡ b.games ++ gs
  pub runs : Runs p b.part (kinds ts) gs

pub not_end : (k : Kind) → (IsLast k → ⊥) → is_end k ≡ false
not_end k h = search rules

end_leads : (stage : Stage) (ps : List Pair) (name : List ℕ) (items : List Item)
    → (to : Part) × (next (at stage ps name items) tokens.end ≡ going to)
end_leads Between ps name items = (at Between ps name items, refl)
end_leads AfterLeftBracket ps name items = (at _ ps name items, refl)
end_leads AfterName ps name items = (at _ ps name items, refl)
end_leads AfterValue ps name items = (at _ ps name items, refl)
end_leads _ ps name items = (at _ ps name _, refl)

at_end : {p : Profile} {b : Progress} {place : ℕ} (k : Kind) → IsLast k
    → (read_from p b (record { at = place; kind = k } ∷ [])).fault ≡ None → Read_on p b (record { at = place; kind = k } ∷ []) []
unfolding refusal
at_end (tokens.refused r) last e = absurd (cc)
at_end {p} {b} {place} tokens.end last e =
    let t : Token = record { at = place; kind = tokens.end } in
    let free = first_passes p b t [] e in
    let leads = end_leads b.part.stage b.part.pairs b.part.name b.part.items in
    record { same = search (rules, append-nil, goes_on); runs = ends _ free }
at_end _ last e = absurd last

one_more : (p : Profile) (b : Progress) (t : Token) {ts : List Token} → refusal p b.part t.kind ≡ None
    → is_end t.kind ≡ false → (n : Next) → next b.part t.kind ≡ n
    → {gs : List Game} → Read_on p (progress_with b.games n) ts gs → (all : List Game) × Read_on p b (t ∷ ts) all
one_more p b t {ts} free end (going to) leads {gs} rest = (
  gs,
  record { same = cc; runs = goes _ to _ _ gs free end leads rest.runs },
)
one_more p b t {ts} free end (whole g) leads {gs} rest = (
  g ∷ gs,
  record {
    same = cc (goes_on p b t ts free, leads, rest.same, append_assoc _ _ gs);
    runs = finishes _ _ g _ gs free end leads rest.runs;
  },
)

pub from_read : (p : Profile) (b : Progress) (ts : List Token) → RisesTo ts
    → (read_from p b ts).fault ≡ None → (gs : List Game) × Read_on p b ts gs
from_read p b [] rises e = absurd rises
from_read p b (t ∷ []) rises e = ([], at_end t.kind rises e)
from_read p b (t ∷ u ∷ us) rises e =
    let free = first_passes p b t (u ∷ us) e in
    let rest = from_read p (progress_after b t) (u ∷ us) rises.2 (rw (sym (goes_on p b t (u ∷ us) free)) (e)) in
    one_more p b t free (not_end _ rises.0) (next _ t.kind) refl rest.1

-- From the relation to reading.
record Read_well (p : Profile) (b : Progress) (ts : List Token) (gs : List Game) : Type 0 where
  fault : (read_from p b ts).fault ≡ None
  games : (read_from p b ts).progress.games ≡ b.games ++ gs

abbrev behind : List Game → Part → Progress
behind games part = record { games = games; part = part }

read_one : {p : Profile} {b c : Progress} {t : Token} {ts : List Token} {gs all : List Game}
    → refusal p b.part t.kind ≡ None → progress_after b t ≡ c → c.games ++ gs ≡ b.games ++ all
    → Read_well p c ts gs → Read_well p b (t ∷ ts) all
read_one free leads same h = search (rules, goes_on)

to_read : (p : Profile) {part : Part} {ks : List Kind} {gs : List Game}
    → Runs p part ks gs → (ts : List Token) (before : List Game) → kinds ts ≡ ks → Read_well p (behind before part) ts gs
to_read p (ends part free) (t ∷ []) before e = search (rules, append-nil, end_leads, read_one)
to_read p (goes part to k ks gs free end leads runs) (t ∷ ts) before e =
    let kind : t.kind ≡ k = cc in
    let rest : kinds ts ≡ ks = cc in
    read_one (ap (refusal p part) kind ∙ free) (rw kind (ap (progress_with before) leads)) refl
    (to_read p runs ts before rest)
to_read p (finishes part k g ks gs free end leads runs) (t ∷ ts) before e =
    let kind : t.kind ≡ k = cc in
    let rest : kinds ts ≡ ks = cc in
    read_one (ap (refusal p part) kind ∙ free)
    (ap (λ j. progress_with before (next part j)) kind ∙ ap (progress_with before) leads) (append_assoc before _ gs)
    (to_read p runs ts _ rest)
to_read p _ _ before e = absurd (cc)

-- A list of tokens that ends with the one end, or with a rejection, is read to its end exactly if
-- it runs.
pub runs_as_read : (p : Profile) (ts : List Token) (gs : List Game) → RisesTo ts
    → Runs p no_part (kinds ts) gs ↔ (((read p ts).fault ≡ None) × ((read p ts).progress.games ≡ gs))
runs_as_read p ts gs rises = (
  λ runs. let h = to_read p {part = no_part} {ks = (kinds ts)} {gs = gs} runs ts [] refl in (h.fault, h.games),
  λ h. let r = from_read p no_progress ts rises h.0 in (rw (sym r.1.same ∙ h.1) at r.1.runs),
)
