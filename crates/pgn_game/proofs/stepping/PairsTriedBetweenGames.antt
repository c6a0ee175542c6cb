-- Between games no pair is tried: the tokens behind the last game of a text without a fault.
use Rattle.pgn_lexer.specs.Tokens as tokens
use Rattle.pgn_game.specs.public.MostTried as most_tried
use Rattle.pgn_game.proofs.Words.{◌≡◌, ◌⊎◌, ℕ, true, false, ◌||◌, List, [], ◌∷◌, Option, None, refl, sym, subst, Parts, Kind, Token, Mode, Reason, Stage, Between, Pair, Item, Game, Part, no_part, progress_with, Profile, refusal, is_at, is_comment, is_end, Next, going, whole, next, next_in, in_text, Progress, Tries, MostFrom, rules, CostsUnlessRefused}
use Rattle.pgn_game.proofs.reading.RunsToEnd.{Runs, at, kinds, ends, goes, finishes}

-- ---- A game that is begun is finished before the end

-- a token leaves it begun, or finishes it
abbrev LeavesBegun : Next → Type 0
LeavesBegun (going to) = is_at Between to ≡ false
LeavesBegun (whole g) = Unit {0}

text_begins : (part : Part) (k : Kind) → LeavesBegun (in_text part k)
text_begins part k = search rules

stays_begun : (stage : Stage) (part : Part) (k : Kind) → is_at Between part ≡ false → part.stage ≡ stage → LeavesBegun (next_in stage part k)
stays_begun stage part k begun is = search (rules, text_begins)

end_fails : (p : Profile) (stage : Stage) (ps : List Pair) (name : List ℕ) (items : List Item)
    → is_at Between (at stage ps name items) ≡ false → refusal p (at stage ps name items) tokens.end ≡ None → ⊥
unfolding refusal
end_fails p stage ps name items begun free = search rules

finishes_one : (p : Profile) {part : Part} {ks : List Kind} {gs : List Game} → Runs p part ks gs → is_at Between part ≡ false → gs ≡ [] → ⊥
finishes_one p (ends part free) begun none = end_fails p part.stage part.pairs part.name part.items begun free
finishes_one p (goes part to k ks gs free end leads runs) begun none =
    finishes_one p runs (subst LeavesBegun leads (stays_begun part.stage part k begun refl)) none
finishes_one p (finishes part k g ks gs free end leads runs) begun none = absurd (cc)

-- ---- A token between games

-- it is dropped, or a game begins with it
abbrev Drops : Kind → Next → Type 0
Drops k (going to) = (is_at Between to ≡ false) ⊎ ((to ≡ no_part) × ((is_comment k || is_end k) ≡ true))
Drops k (whole g) = Unit {0}

drops : (k : Kind) → Drops k (next no_part k)
drops k = search (rules, text_begins)

-- nothing is written where no item is added
costs_same : (o : Option Reason) (mode : Option Mode) (deep : ℕ) (here : Parts) (n : ℕ) → CostsUnlessRefused o mode deep here [] n n
costs_same o mode deep here n = search rules

tries_none : (p : Profile) (k : Kind) → (is_comment k || is_end k) ≡ true → Tries false p no_part k 0
tries_none p k is = search (rules, costs_same)

-- ---- All of them

abbrev between : List Game → Progress
between games = record { games = games; part = no_part }

module _ (p : Profile) (games : List Game) (t : Token) (ts : List Token) where
  passes_one : refusal p no_part t.kind ≡ None → next no_part t.kind ≡ going no_part → (is_comment t.kind || is_end t.kind) ≡ true
      → MostFrom false p (between games) ts 0 → MostFrom false p (between games) (t ∷ ts) 0
  passes_one free leads dropped rest =
      most_tried.passes (between games) t ts 0 0 free (tries_none p t.kind dropped)
      (subst (λ n. MostFrom false p (progress_with games n) ts 0) (sym leads) rest)

  one_more : {to : Part} {ks : List Kind} → Runs p to ks [] → refusal p no_part t.kind ≡ None → next no_part t.kind ≡ going to
      → (to ≡ no_part → MostFrom false p (between games) ts 0) → Drops t.kind (going to) → MostFrom false p (between games) (t ∷ ts) 0
  one_more runs free leads rest h1 = search (rules, finishes_one, passes_one)

tried_from : (p : Profile) {part : Part} {ks : List Kind} {gs : List Game} → Runs p part ks gs → part ≡ no_part → gs ≡ []
    → (ts : List Token) (games : List Game) → kinds ts ≡ ks → MostFrom false p (between games) ts 0
tried_from p (ends part free) is none (t ∷ []) games same =
    let kind : t.kind ≡ tokens.end = cc in
    passes_one p games t [] (cc) (cc) (cc) (most_tried.none (between games))
tried_from p (goes part to k ks gs free end leads runs) is none (t ∷ ts) games same =
    let kind : t.kind ≡ k = cc in
    let rest : kinds ts ≡ ks = cc in
    let leads_so : next no_part t.kind ≡ going to = cc in
    one_more p games t ts (subst (Runs p to ks) none runs) (cc) leads_so (λ so. tried_from p runs so none ts games rest)
    (subst (Drops t.kind) leads_so (drops t.kind))
tried_from p (finishes part k g ks gs free end leads runs) is none (t ∷ ts) games same = absurd (cc)
tried_from p _ is none ts games same = absurd (cc)

pub none_tried : (p : Profile) (b : Progress) (ts : List Token) → Runs p b.part (kinds ts) [] → b.part ≡ no_part → MostFrom false p b ts 0
none_tried p b ts runs is =
    subst (λ part. MostFrom false p (record { games = b.games; part = part }) ts 0) (sym is) (tried_from p runs is refl ts b.games refl)
