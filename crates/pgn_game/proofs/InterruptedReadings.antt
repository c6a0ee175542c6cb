-- Two readings of one text, of which one stops early or a write fails: what is written is a prefix.
use Rattle.pgn_game.proofs.Words.{◌≡◌, ℕ, List, [], ◌∷◌, ◌++◌, take, drop, ◌⊎◌, inl, inr, None, refl, sym, ap, subst, ◌∙◌, append_assoc, append-nil, take-append-drop, tokens_of, TokensRise, Token, Profile, takes_the_marker, game_text, torn, torn_for, Next, going, whole, next, Progress, no_progress, progress_with, progress_after, Read, read_from, IsPrefix, rules, PlacedMarker, marker_at, markers_from, Comparison, compared_from, compared, written_by, with_marker, decided, text_of_games as text_of, written_so_far as written, due, DecidedIsPrefix, AreWritten, AreWrittenWithin, InterruptedReadings}
use Rattle.pgn_game.proofs.stepping.OneMoreToken.{by_token, goes_on, also, grows_from, due_grows, text_of-snoc}
use Rattle.pgn_game.proofs.stepping.NextGrows.{behind, next_grows}
use Rattle.pgn_game.proofs.EqualReadings.{Ends, ends, rest_ends, after_markers, markers_test, SeesGames, same_token, rejected_token, compared_same, written_same}
use Rattle.pgn_game.proofs.twice.MarkerCounts.{same_game_text}

front_of : (n : ℕ) (xs ys : List ℕ) → IsPrefix xs ys → IsPrefix (take n xs) ys
front_of n xs ys h = also (take n xs) xs ys (drop n xs, sym (take-append-drop n xs)) h

front_ends : (us more : List Token) → Ends (us ++ more) → Ends us
front_ends [] more last = tt
front_ends (t ∷ []) more last = tt
front_ends (t ∷ u ∷ us) more last = (last.0, front_ends (u ∷ us) more last.1)

-- of two prefixes of one list, one begins with the other
longer : (xs ys vs ws : List Token) → xs ++ vs ≡ ys ++ ws
    → ((more : List Token) × (ys ≡ xs ++ more)) ⊎ ((more : List Token) × (xs ≡ ys ++ more))
longer [] ys vs ws same = inl (ys, refl)
longer (x ∷ xs) [] vs ws same = inr (x ∷ xs, refl)
longer (x ∷ xs) (y ∷ ys) vs ws same = search (rules, (longer xs ys vs ws cc))

module _ (p : Profile) (takes : p.missing_result ≡ takes_the_marker) where
  -- where a missing Result takes the marker, only whole games are written in one reading
  whole_games : (b : Progress) → written p b ≡ text_of p b.games
  whole_games b = ap (λ m. text_of p b.games ++ torn_for m p.mode b.part) takes ∙ append-nil (text_of p b.games)

  games_grow : (b : Progress) (ts : List Token) → IsPrefix (text_of p b.games) (written p (read_from p b ts).progress)
  games_grow b ts = subst (λ (l : List ℕ). IsPrefix l (written p (read_from p b ts).progress)) (whole_games b) (grows_from p b ts)

  -- The text of the current game under the marker ahead is a prefix of the text of that game.
  abbrev Ahead : Progress → PlacedMarker → Read → Type 0
  Ahead b m r = IsPrefix (text_of p b.games ++ torn (with_marker p m) b.part) (written p r.progress)

  torn_at_marker : (b : Progress) (t : Token) (ts : List Token) (m : PlacedMarker) {ms : List PlacedMarker} (n : Next) → next b.part t.kind ≡ n
      → marker_at t.at n ++ markers_from p (progress_with b.games n) ts ≡ m ∷ ms
      → (markers_from p (progress_with b.games n) ts ≡ m ∷ ms → Ahead (progress_with b.games n) m (read_from p (progress_with b.games n) ts))
      → Ahead b m (read_from p (progress_with b.games n) ts)
  torn_at_marker b t ts m (going part) leads is further =
      also _ _ _ (behind (text_of p b.games) _ _ (rw leads at (next_grows (with_marker p m) b.part t.kind))) (further is)
  torn_at_marker b t ts m (whole g) leads is further =
      let c : Progress = progress_with b.games (whole g) in
      let same : m ≡ record { text = g.marker; at = t.at } = cc in
      let grown : IsPrefix (torn (with_marker p m) b.part) (game_text (with_marker p m) g) =
      rw leads at (next_grows (with_marker p m) b.part t.kind) in
      let text : game_text (with_marker p m) g ≡ game_text p g = rw same (same_game_text p g takes) in
      also _ _ _ (behind (text_of p b.games) _ _ (subst (IsPrefix (torn (with_marker p m) b.part)) text grown))
      (rw (text_of-snoc p b.games g) at (games_grow c ts))

  torn_ahead : (b : Progress) (ts : List Token) (m : PlacedMarker) (ms : List PlacedMarker) → markers_from p b ts ≡ m ∷ ms
      → Ahead b m (read_from p b ts)
  torn_ahead b [] m ms is = absurd (cc)
  torn_ahead b (t ∷ ts) m ms is = search (rules, by_token, torn_at_marker, markers_test, after_markers, (torn_ahead (progress_after b t) ts m ms))

  -- What is written of one text where `second` stops behind a front of its tokens: `low` is what
  -- one reading has written by then, and `high` what it writes in all.
  record Within (low high : Progress) (f : Comparison) : Type 0 where
    fault : f.fault ≡ None
    least : IsPrefix (text_of p low.games) (written_by p f)
    most : IsPrefix (written_by p f) (written p high)

  sees_within : (low high : Progress) → SeesGames (Within low high)
  sees_within low high = search rules

  none_written : {b high : Progress} → IsPrefix (text_of p b.games) (written p high)
      → Within b high (record { progress = b; markers_left = []; fault = None })
  none_written grown = search (rules, append-nil)

  waits : (b : Progress) (more : List Token) (ms : List PlacedMarker) → markers_from p b more ≡ ms
      → Within b (read_from p b more).progress (record { progress = b; markers_left = ms; fault = None })
  waits b more [] is = none_written (games_grow b more)
  waits b more (m ∷ ms) is = record { fault = refl; least = (_, refl); most = torn_ahead b more m ms is }

  abbrev ForToken : Progress → Token → List Token → List Token → Read → Read → Type 0
  ForToken b t us more low high = Within low.progress high.progress (compared_from p (markers_from p b (t ∷ us ++ more)) b (t ∷ us))

  -- The first reading has the tokens of the second, and more.
  compared_within : (b : Progress) (us more : List Token) → Ends (us ++ more)
      → Within (read_from p b us).progress (read_from p b (us ++ more)).progress (compared_from p (markers_from p b (us ++ more)) b us)
  compared_within b [] more last = waits b more (markers_from p b more) refl
  compared_within b (t ∷ us) more last =
      by_token p b t us (λ r. ForToken b t us more r (read_from p b (t ∷ us ++ more)))
      (λ reason is. subst (Within b _) (sym (rejected_token p b t (us ++ more) us is)) (none_written (games_grow b (t ∷ us ++ more))))
      (λ is.
      subst (ForToken b t us more (read_from p (progress_after b t) us)) (sym (goes_on p b t (us ++ more) is))
      (same_token (Within (read_from p (progress_after b t) us).progress (read_from p (progress_after b t) (us ++ more)).progress)
      (sees_within _ _) p b t (us ++ more) us last is
      (compared_within (progress_after b t) us more (rest_ends t (us ++ more) last))))

  -- `first` stops behind the tokens us
  pub first_stops : (us more : List Token) → Ends (us ++ more) → AreWritten p (compared p us (us ++ more)) (due p us)
  first_stops us more last = search (rules, compared_same, written_same, front_ends)

  -- `second` stops there
  pub second_stops : (us more : List Token) → Ends (us ++ more) → AreWrittenWithin p (compared p (us ++ more) us) (due p us) (due p (us ++ more))
  second_stops us more last =
      let so = compared_within no_progress us more last in search (rules, whole_games)

  -- The same where `first` has given the tokens ts, of which a marker is ahead.
  pub before_marker : (us more ts rest : List Token) {m : PlacedMarker} {ms : List PlacedMarker} → Ends (us ++ more)
      → us ++ more ≡ ts ++ rest → (compared p ts us).markers_left ≡ m ∷ ms
      → AreWrittenWithin p (compared p ts us) (due p us) (due p (us ++ more))
  before_marker us more ts rest last same ahead = by_length (longer ts us rest more (sym same))
    where
      by_length : ((z : List Token) × (us ≡ ts ++ z)) ⊎ ((z : List Token) × (ts ≡ us ++ z))
          → AreWrittenWithin p (compared p ts us) (due p us) (due p (us ++ more))
      by_length (inl h) = search (rules, first_stops, front_ends)
      by_length (inr h) =
          let so = second_stops us h.0 (subst Ends h.1 (front_ends ts rest (subst Ends same last))) in
          let within = rw (← h.1) at so in
          record {
            fault = within.fault;
            least = within.least;
            most = also _ _ _ within.most (rw same (due_grows p ts rest));
          }

  -- Whatever both have given of one text, a prefix of its output is written.
  pub written_in_front : (ts rest us more : List Token) → Ends (ts ++ rest)
      → ts ++ rest ≡ us ++ more → IsPrefix (written_by p (compared p ts us)) (due p (ts ++ rest))
  written_in_front ts rest us more last same = by_length (longer ts us rest more same)
    where
      by_length : ((z : List Token) × (us ≡ ts ++ z)) ⊎ ((z : List Token) × (ts ≡ us ++ z))
          → IsPrefix (written_by p (compared p ts us)) (due p (ts ++ rest))
      by_length (inl h) =
          let so = first_stops ts h.0 (subst Ends h.1 (front_ends us more (subst Ends same last))) in
          let is : written_by p (compared p ts us) ≡ due p ts = rw h.1 so.written in
          subst (λ (l : List ℕ). IsPrefix l (due p (ts ++ rest))) (sym is) (due_grows p ts rest)
      by_length (inr h) =
          let so = second_stops us h.0 (subst Ends h.1 (front_ends ts rest last)) in
          also _ _ _ (rw h.1 so.most) (due_grows p ts rest)

pub interrupted_readings : DecidedIsPrefix → TokensRise → InterruptedReadings
interrupted_readings decides rise =
    record {
      first_stops = λ p u x takes.
          let h = decides u x in search (rules, first_stops, ends);
      second_stops = λ p u x ts rest m ms takes cut ahead.
          let h = decides u x in
          rw h.1 (before_marker p takes (decided u) h.0 ts rest (subst Ends h.1 (ends (tokens_of (u ++ x)) (rise (u ++ x)))) (sym h.1 ∙ cut)
          ahead);
      write_fails = λ p s ts rest front after token count takes cut at.
          let us = front ++ token ∷ [] in
          let here : ts ++ rest ≡ us ++ after = sym cut ∙ at ∙ sym (append_assoc front (token ∷ []) after) in
          let so = written_in_front p takes ts rest us after (subst Ends cut (ends (tokens_of s) (rise s))) here in
          front_of count _ _ (rw cut so);
    }
