-- Two equal readings: no token of the second shows a difference, also where one stops early.
use Rattle.pgn_game.proofs.Words.{◌≡◌, ℕ, Bool, true, false, List, [], ◌∷◌, ◌++◌, inl, inr, Option, None, Some, refl, ap, ◌∙◌, append-nil, ◌==◌, bytes_eq-Decides, tokens_of, RisesTo, TokensRise, Token, Reason, Changed, Fault, Profile, takes_the_marker, Game, Part, refusal, is_end, Next, going, whole, next, Progress, no_progress, progress_after, read, read_from, eqb_tells, arith, rules, PlacedMarker, marker_at, markers_from, Comparison, compared_from, compared, written_by, is_other, is_changed, markers_after, written_so_far as written, verdict_of, EqualReadings}
use Rattle.pgn_game.proofs.stepping.OneMoreToken.{by_token}
use Rattle.pgn_game.proofs.reading.RunsToEnd.{not_end}

-- how far the second reading is: its games, and no difference is seen
pub record Same (f : Comparison) (gs : List Game) : Type 0 where
  pub fault : f.fault ≡ None
  pub markers_left : f.markers_left ≡ []
  pub games : f.progress.games ≡ gs

-- only the last token may be the end
abbrev pub Ends : List Token → Type 0
Ends [] = Unit {0}
Ends (t ∷ []) = Unit {0}
Ends (t ∷ u ∷ ts) = (is_end t.kind ≡ false) × Ends (u ∷ ts)

pub ends : (ts : List Token) → RisesTo ts → Ends ts
ends [] rises = tt
ends (t ∷ []) rises = tt
ends (t ∷ u ∷ ts) rises = (not_end t.kind rises.0, ends (u ∷ ts) rises.2)

-- One token, by what it is rejected for, and by whether it shows a difference.
abbrev pub after_markers : Profile → Progress → Token → List Token → Option Reason → List PlacedMarker
after_markers p b t ts (Some reason) = []
after_markers p b t ts None = marker_at t.at (next b.part t.kind) ++ markers_from p (progress_after b t) ts

pub markers_test : (p : Profile) (b : Progress) (t : Token) (ts : List Token)
    → markers_from p b (t ∷ ts) ≡ after_markers p b t ts (refusal p b.part t.kind)
markers_test p b t ts = cc

abbrev pub after_change : Profile → PlacedMarker → List PlacedMarker → Progress → Token → List Token → Bool → Comparison
after_change p m ms b t ts true = record { progress = b; markers_left = m ∷ ms; fault = Some (record { at = t.at; reason = Changed }) }
after_change p m ms b t ts false = compared_from p (markers_after (next b.part t.kind) m ms) (progress_after b t) ts

pub change_test : (p : Profile) (m : PlacedMarker) (ms : List PlacedMarker) (b : Progress) (t : Token) (ts : List Token)
    → compared_from p (m ∷ ms) b (t ∷ ts) ≡ after_change p m ms b t ts (is_changed p m b.part t)
change_test p m ms b t ts = cc

same_place : (n : ℕ) → (n == n) ≡ true
same_place n = elim (eqb_tells n n) [ inl h ↦ h.0 | inr h ↦ absurd (h.1 refl) ]

same_marker : (g : Game) (t : Token) → is_other (record { text = g.marker; at = t.at }) (whole g) t ≡ false
same_marker g t = grind (arith, bytes_eq-Decides, same_place)

pub no_marker_ahead : (p : Profile) (b : Progress) (ts : List Token)
    → compared_from p [] b ts ≡ record { progress = b; markers_left = []; fault = None }
no_marker_ahead p b [] = refl
no_marker_ahead p b (t ∷ ts) = refl

-- a token that neither is rejected nor shows a difference
unchanged : (p : Profile) (m : PlacedMarker) (b : Progress) (t : Token) {n : Next}
    → refusal p b.part t.kind ≡ None → next b.part t.kind ≡ n → is_other m n t ≡ false → is_changed p m b.part t ≡ false
unchanged p m b t free leads same = cc

-- Behind the last marker, P depends on the finished games and not on the current one.
abbrev pub SeesGames : (Comparison → Type 0) → Type 0
SeesGames P = (b c : Progress) → c.games ≡ b.games → P (record { progress = c; markers_left = []; fault = None })
    → P (record { progress = b; markers_left = []; fault = None })

-- A token that both readings have and that is not rejected: what holds behind it holds before it.
module _ (P : Comparison → Type 0) (sees : SeesGames P) (p : Profile) (b : Progress) (t : Token)
    (ts us : List Token) (last : Ends (t ∷ ts)) (free : refusal p b.part t.kind ≡ None)
    (so : P (compared_from p (markers_from p (progress_after b t) ts) (progress_after b t) us)) where
  abbrev rest : List PlacedMarker
  rest = markers_from p (progress_after b t) ts

  -- at a marker
  at_marker : {g : Game} → next b.part t.kind ≡ whole g → P (compared_from p (marker_at t.at (next b.part t.kind) ++ rest) b (t ∷ us))
  at_marker leads = search (rules, change_test, same_marker, unchanged)

  -- within a game, with more markers or without
  in_game : {part : Part} → next b.part t.kind ≡ going part → {ms : List PlacedMarker}
      → (vs : List Token) → Ends (t ∷ vs) → markers_from p (progress_after b t) vs ≡ ms
      → P (compared_from p ms (progress_after b t) us) → P (compared_from p ms b (t ∷ us))
  in_game leads vs ends_so is h = search (rules, change_test, no_marker_ahead, unchanged)

  by_next : (n : Next) → next b.part t.kind ≡ n → P (compared_from p (marker_at t.at (next b.part t.kind) ++ rest) b (t ∷ us))
  by_next n leads = search (rules, at_marker, in_game)

  pub same_token : P (compared_from p (markers_from p b (t ∷ ts)) b (t ∷ us))
  same_token = rw (markers_test p b t ts ∙ ap (after_markers p b t ts) free) (by_next (next b.part t.kind) refl)

pub rejected_token : (p : Profile) (b : Progress) (t : Token) (ts us : List Token) {reason : Reason} → refusal p b.part t.kind ≡ Some reason
    → compared_from p (markers_from p b (t ∷ ts)) b (t ∷ us) ≡ record { progress = b; markers_left = []; fault = None }
rejected_token p b t ts us is = cc

pub rest_ends : (t : Token) (ts : List Token) → Ends (t ∷ ts) → Ends ts
rest_ends t ts last = search rules

-- The second reading has the tokens of the first, and more.
pub compared_same : (p : Profile) (b : Progress) (ts more : List Token) → Ends ts
    → Same (compared_from p (markers_from p b ts) b (ts ++ more)) (read_from p b ts).progress.games
compared_same p b [] more last = (rw (no_marker_ahead p b more) (record { fault = refl; markers_left = refl; games = refl }))
compared_same p b (t ∷ ts) more last =
    search (rules, by_token, rejected_token, same_token, rest_ends, (compared_same p (progress_after b t) ts more (rest_ends t ts last)))

-- What is written at the last marker: the finished games, as in one reading.
pub written_same : (p : Profile) {f : Comparison} (b : Progress)
    → p.missing_result ≡ takes_the_marker → Same f b.games → written_by p f ≡ written p b
written_same p b takes so = cc

-- the verdict has the games and the fault alone
same_verdict : (b c : Progress) (o : Option Fault) → b.games ≡ c.games
    → verdict_of (record { progress = b; fault = o }) ≡ verdict_of (record { progress = c; fault = o })
same_verdict b c o same = cc

pub equal_readings : TokensRise → EqualReadings
equal_readings rise p s takes =
    let ts = tokens_of s in
    let f = compared p ts ts in
    let r = read p ts in
    let so = (rw (append-nil ts) at (compared_same p no_progress ts [] (ends ts (rise s)))) in search (rules, same_verdict, written_same)
