-- One token more, of either reading: the markers of the first, and the tokens of the second up to a
-- marker.
use Rattle.pgn_game.proofs.Words.{Token, Reason, Profile, Game, Part, ◌≡◌, ℕ, Bool, false, ◌||◌, is_some, List, [], ◌∷◌, ◌++◌, length, Option, None, refl, sym, ap, subst, ◌∙◌, append_assoc, tokens_of, RisesTo, TokensRise, refusal, is_end, Next, going, whole, next, Progress, progress_with, no_progress, progress_after, Read, read, read_from, PlacedMarker, marker_at, markers, markers_from, is_other, is_changed, markers_after, compared_from, compared, HasMarkers, HasMatched, SameGames, part_after, arith, common_steps, rules}
use Rattle.pgn_game.proofs.EqualReadings.{after_markers, markers_test, after_change, change_test}
use Rattle.pgn_game.proofs.reading.RunsToEnd.{not_end}
use Rattle.pgn_game.proofs.stepping.NoneBeforeFault.{reads_behind}
use Rattle.pgn_game.proofs.stepping.OneMoreToken.{first_passes, goes_on, read-passes}
use Rattle.pgn_game.proofs.twice.CountingToTaking.{game_stays}

module _ (q : Profile) (given : List Token) (t : Token) (ms : List PlacedMarker) where
  marked_token : (read q given).fault ≡ None → refusal q (part_after q given) t.kind ≡ None → HasMarkers q given ms
      → HasMarkers q (given ++ t ∷ [])
      (ms ++ marker_at t.at (next (part_after q given) t.kind))
  marked_token passes free so ts = search (rules, append_assoc, markers_test, read-passes)

  pub marked_game : (g : Game) → (read q given).fault ≡ None → refusal q (part_after q given) t.kind ≡ None
      → next (part_after q given) t.kind ≡ whole g → HasMarkers q given ms → HasMarkers q (given ++ t ∷ [])
      (ms ++ record { text = g.marker; at = t.at } ∷ [])
  marked_game g passes free leads so = grind (arith, common_steps, marked_token)

pub matched_marker : (q : Profile) (ms : List PlacedMarker) (m : PlacedMarker) (us : List Token)
    → HasMatched q ms us [] → HasMatched q (ms ++ m ∷ []) us (m ∷ [])
matched_marker q ms m us so ns ts = search (rules, append_assoc)

-- a token that shows no difference is not rejected
pub either_false : (o : Option Reason) (other : Bool) → (is_some o || other) ≡ false → (o ≡ None) × (other ≡ false)
either_false o other same = search rules

pub not_changed : (q : Profile) (m : PlacedMarker) (part : Part) (t : Token) → is_changed q m part t ≡ false
    → (refusal q part t.kind ≡ None) × (is_other m (next part t.kind) t ≡ false)
not_changed q m part t same = either_false (refusal q part t.kind) (is_other m (next part t.kind) t) same

markers_behind : (n : Next) (m : PlacedMarker) (ns : List PlacedMarker) → markers_after n m ns ≡ markers_after n m [] ++ ns
markers_behind n m ns = search rules

module _ (q : Profile) (ms : List PlacedMarker) (m : PlacedMarker) (us : List Token) (t : Token) where
  matched_token : (read q us).fault ≡ None → is_changed q m (part_after q us) t ≡ false → HasMatched q ms us (m ∷ [])
      → HasMatched q ms (us ++ t ∷ []) (markers_after (next (part_after q us) t.kind) m [])
  matched_token passes same so ns ts = search (rules, append_assoc, change_test, markers_behind, read-passes, not_changed)

  pub matched_next : (n : Next) → (read q us).fault ≡ None → is_changed q m (part_after q us) t ≡ false → next (part_after q us) t.kind ≡ n
      → HasMatched q ms us (m ∷ []) → HasMatched q ms (us ++ t ∷ []) (markers_after n m [])
  matched_next n passes same leads so = search (rules, matched_token)

-- Tokens that finish no game.

-- none of these is the end
abbrev pub HasNoEnd : List Token → Type 0
HasNoEnd [] = Unit {0}
HasNoEnd (t ∷ ts) = (is_end t.kind ≡ false) × HasNoEnd ts

none_is_end : (ts : List Token) (t : Token) (rest : List Token) → RisesTo (ts ++ t ∷ rest) → HasNoEnd ts
none_is_end [] t rest rises = tt
none_is_end (x ∷ []) t rest rises = (not_end x.kind rises.0, tt)
none_is_end (x ∷ y ∷ ts) t rest rises = (not_end x.kind rises.0, none_is_end (y ∷ ts) t rest rises.2)

behind_those : (xs ts : List Token) → HasNoEnd (xs ++ ts) → HasNoEnd ts
behind_those [] ts none = none
behind_those (x ∷ xs) ts none = behind_those xs ts none.1

-- so it is with tokens behind which another comes
pub no_end_before : TokensRise → (s : List ℕ) (given more tokens : List Token) (t : Token) (rest : List Token) → tokens_of s ≡ tokens ++ t ∷ rest
    → tokens ≡ given ++ more → HasNoEnd more
no_end_before rise s given more tokens t rest cut is = search (rules, behind_those, none_is_end)

-- where a token leads that finishes none
quiet_token : (q : Profile) (b : Progress) (t : Token) (ts : List Token) → length (read_from q (progress_after b t) ts).progress.games ≡ length b.games
    → (n : Next) → next b.part t.kind ≡ n → (to : Part) × (next b.part t.kind ≡ going to)
quiet_token q b t ts same n leads = search (rules, game_stays)

module _ (q : Profile) (b : Progress) (t : Token) (ts : List Token) (passes : (read_from q b (t ∷ ts)).fault ≡ None)
    (same : length (read_from q b (t ∷ ts)).progress.games ≡ length b.games) where
  free : refusal q b.part t.kind ≡ None
  free = first_passes q b t ts passes

  here : read_from q b (t ∷ ts) ≡ read_from q (progress_after b t) ts
  here = goes_on q b t ts free

  kept : length (read_from q (progress_after b t) ts).progress.games ≡ length b.games
  kept = subst (λ (r : Read). length r.progress.games ≡ length b.games) here same

  leads : (to : Part) × (next b.part t.kind ≡ going to)
  leads = quiet_token q b t ts kept (next b.part t.kind) refl

  pub then_same : length (read_from q (progress_after b t) ts).progress.games ≡ length (progress_after b t).games
  then_same = kept ∙ ap (λ (n : Next). length (progress_with b.games n).games) (sym leads.1)

  pub then_passes : (read_from q (progress_after b t) ts).fault ≡ None
  then_passes = ap (λ (r : Read). r.fault) (sym here) ∙ passes

quiet_markers : (q : Profile) (b : Progress) (more ts : List Token) → (read_from q b more).fault ≡ None
    → length (read_from q b more).progress.games ≡ length b.games
    → markers_from q b (more ++ ts) ≡ markers_from q (read_from q b more).progress ts
quiet_markers q b [] ts passes same = refl
quiet_markers q b (t ∷ us) ts passes same =
    markers_test q b t (us ++ ts) ∙ ap (after_markers q b t (us ++ ts)) (free q b t us passes same)
    ∙ ap (λ (n : Next). marker_at t.at n ++ markers_from q (progress_after b t) (us ++ ts)) (leads q b t us passes same).1
    ∙ quiet_markers q (progress_after b t) us ts (then_passes q b t us passes same) (then_same q b t us passes same)
    ∙ ap (λ (r : Read). markers_from q r.progress ts) (sym (here q b t us passes same))

quiet_compared : (q : Profile) (m : PlacedMarker) (ns : List PlacedMarker) (b : Progress) (more ts : List Token) → HasNoEnd more
    → (read_from q b more).fault ≡ None → length (read_from q b more).progress.games ≡ length b.games
    → compared_from q (m ∷ ns) b (more ++ ts) ≡ compared_from q (m ∷ ns) (read_from q b more).progress ts
quiet_compared q m ns b [] ts no_end passes same = refl
quiet_compared q m ns b (t ∷ us) ts no_end passes same =
    let to = leads q b t us passes same in
    change_test q m ns b t (us ++ ts)
    ∙ ap (λ (o : Option Reason). after_change q m ns b t (us ++ ts) (is_some o || is_other m (next b.part t.kind) t)) (free q b t us passes same)
    ∙ ap (λ (n : Next). after_change q m ns b t (us ++ ts) (is_other m n t)) to.1
    ∙ ap (after_change q m ns b t (us ++ ts)) no_end.0
    ∙ ap (λ (n : Next). compared_from q (markers_after n m ns) (progress_after b t) (us ++ ts)) to.1
    ∙ quiet_compared q m ns (progress_after b t) us ts no_end.1 (then_passes q b t us passes same) (then_same q b t us passes same)
    ∙ ap (λ (r : Read). compared_from q (m ∷ ns) r.progress ts) (sym (here q b t us passes same))

-- They bring no marker more, and show no difference.
module _ (q : Profile) (given more : List Token) (before : (read q given).fault ≡ None)
    (passes : (read q (given ++ more)).fault ≡ None) (same : SameGames q given (given ++ more)) where
  behind : read q (given ++ more) ≡ read_from q (read q given).progress more
  behind = reads_behind q no_progress given more before

  more_passes : (read_from q (read q given).progress more).fault ≡ None
  more_passes = ap (λ (r : Read). r.fault) (sym behind) ∙ passes

  more_same : length (read_from q (read q given).progress more).progress.games ≡ length (read q given).progress.games
  more_same = ap (λ (r : Read). length r.progress.games) (sym behind) ∙ ap (length {A = Game}) same

  pub marked_on : (ms : List PlacedMarker) → HasMarkers q given ms → HasMarkers q (given ++ more) ms
  marked_on ms so ts = grind (arith, common_steps, markers, append_assoc, quiet_markers, read, more_passes, more_same, markers_from, behind)

  pub matched_on : HasNoEnd more → (ms : List PlacedMarker) (m : PlacedMarker) → HasMatched q ms given (m ∷ [])
      → HasMatched q ms (given ++ more) (m ∷ [])
  matched_on no_end ms m so ns ts = search (rules, append_assoc, quiet_compared, more_passes, more_same, behind)

-- both readings, whatever comes behind them
pub both_read : (q : Profile) (ts us vs ws : List Token) (ms left : List PlacedMarker) → HasMarkers q ts ms → HasMatched q ms us left
    → compared q (ts ++ vs) (us ++ ws) ≡ compared_from q (left ++ markers_from q (read q ts).progress vs) (read q us).progress ws
both_read q ts us vs ws ms left marked so = search rules
