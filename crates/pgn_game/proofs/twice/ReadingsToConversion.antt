-- From what the calls of each game return, in both readings, to the conversion.
use Rattle.pgn_game.proofs.Words.{Token, Reason, Changed, ReadFault, Fault, Profile, takes_the_marker, Game, no_part, ◌≡◌, ℕ, ◌+◌, ◌^◌, ◌<◌, ◌≤◌, max, Bool, true, false, List, [], ◌∷◌, ◌++◌, length, take, Option, None, Some, Ok, IfSome, refl, sym, ap, subst, ◌∙◌, append_assoc, append-nil, length-append, arith, map, sum, take-append-add, Appends-nil, Appends-trans, and_parts, not-false, bytes_eq-Decides, Appends, Device, FailsOnce, tokens_of, decided, plies_of, text_next, gain, refusal, plies_of_finished_games, verdict_in, PlacedMarker, markers_from, is_other, is_changed, markers_after, Comparison, compared_from, compared, with_marker, torn_before, written_by, earlier_fault, BothSoFar, HasMarkers, Reading, changed_reason, model_marker, part_after, IfSome_then, Totals, game_text, torn, Next, next, Progress, progress_with, progress_after, read, totals, verdict_of, Decides, IsTokenPrefix, AreConverted, AreRefused, AreTotalled, HasTaken, MatchesAllMarkers, FirstStops, SecondStops, WriteStops, TwoReadingsFail, TwoReadingsConvert, AllRead, ComesNext, FirstFails, GameRead, GameWritten, HasGiven, ReadFails, SecondFails, Stores, WhyFirst, WhySecond, as_changed, AreShown, known_by, common_steps, rules}
use Rattle.pgn_game.specs.declared.marker.PlacedMarker.{PlacedMarker as CodePlacedMarker}
use Rattle.pgn_game.specs.export.Text.{text_of}
use Rattle.pgn_game.specs.games.Progress.{refused as is_refused}
use Rattle.pgn_game.specs.steps.Readings as readings
use Rattle.pgn_game.proofs.EqualReadings.{after_markers, markers_test, after_change, change_test, no_marker_ahead}
use Rattle.pgn_game.proofs.stepping.NextGrows.{next_is}
use Rattle.pgn_game.proofs.stepping.OneMoreToken.{read-refuses, text_of-snoc}
use Rattle.pgn_game.proofs.stepping.AcceptedToConverter.{in_games}
use Rattle.pgn_game.proofs.stepping.BytesWithinLimit.{decides_by, shown_begins}
use Rattle.pgn_game.proofs.twice.SourceToReading.{AreNextIn, next_in, shown_in}
use Rattle.pgn_game.proofs.twice.MarkersInTurn.{matched_marker, not_changed, both_read}

-- what follows for both texts, if both are known
both_known : (o n : Option (List ℕ)) (A B : List ℕ → Type 0) (P : List ℕ → List ℕ → Type 0)
    → IfSome o A → IfSome n B → ((s r : List ℕ) → A s → B r → P s r) → IfSome o (λ s. IfSome n (λ r. P s r))
both_known o n A B P first second goes = search rules

-- the tokens of the text begin with these
abbrev Begins : List Token → List ℕ → Type 0
Begins given s = IsTokenPrefix given (tokens_of s)

-- What a reading has given: the text of its source shows the tokens, and the bytes that were read
-- decide them.
module _ (q : Profile) (left_old left_now : Option (List ℕ)) (r : Reading) (given : List Token) (h : HasGiven q left_old left_now r given) where
  come : AreNextIn (known_by r.has_ended h.bytes) given
  come = next_in (known_by r.has_ended h.bytes) r.converter.lexer given h.lexer

  shown : IfSome left_old (λ s. AreShown s given)
  shown = shown_in left_old left_now r h.bytes given h.source come

  decides : Decides left_old left_now given
  decides = by_end r.has_ended h.source.stores come
    where
      by_end : (e : Bool) → Stores e r.converter.lexer.count r.unused h.bytes left_old → AreNextIn (known_by e h.bytes) given → Decides left_old left_now given
      by_end false stores next = decides_by left_old left_now h.bytes given h.source.consumed next
      by_end true (count, short, is) next = Decides.at_end h.bytes h.source.consumed short is next

pub both_none : (q : Profile) (first second : Option (List ℕ)) (a b : Reading) (o : Option (List ℕ))
    → HasGiven q first first a [] → HasGiven q second second b [] → BothSoFar q first first second second a b o o
both_none q first second a b o first_given second_given =
    record {
      markers = [];
      first_tokens = [];
      first_stands = record { has_given = first_given; between = refl };
      marked = λ ts. refl;
      second_tokens = [];
      second_stands = record { has_given = second_given; between = refl };
      matched = λ ns ts. refl;
      written = Appends-nil o;
    }

-- Of a game that ends with the marker, the text under that marker is its text.
under_marker : (q : Profile) (g : Game) (m : PlacedMarker) → q.missing_result ≡ takes_the_marker
    → g.marker ≡ m.text → game_text q g ≡ game_text (with_marker q m) g
under_marker q g m takes same = grind (arith, common_steps)

-- between games nothing is written of one
torn-between : (q : Profile) (ms : List PlacedMarker) → torn_before q ms no_part ≡ []
torn-between q ms = search rules

-- what is written when a token is taken that shows no difference
written_at_token : (q : Profile) (m : PlacedMarker) (ms : List PlacedMarker) (games : List Game) (t : Token) (n : Next)
    → q.missing_result ≡ takes_the_marker → is_other m n t ≡ false
    → written_by q (record { progress = progress_with games n; markers_left = markers_after n m ms; fault = None })
    ≡ text_of q games ++ text_next (with_marker q m) n
written_at_token q m ms games t n takes same =
    search (rules, bytes_eq-Decides, and_parts, not-false, torn-between, append-nil, text_of-snoc, under_marker)

pub both_more : (q : Profile) (first_old first_now second_old second_now : Option (List ℕ)) (a b : Reading)
    (before mid : Option (List ℕ)) (so : BothSoFar q first_old first_now second_old second_now a b before mid)
    (m : CodePlacedMarker) (new_a new_b : Reading) (first_new second_new after : Option (List ℕ))
    → GameRead q first_old first_new so.first_tokens m new_a
    → GameWritten q second_old second_new so.second_tokens m new_b mid after
    → BothSoFar q first_old first_new second_old second_new new_a new_b before after
both_more q first_old first_now second_old second_now a b before mid so m new_a new_b first_new second_new after reads writes =
    record {
      markers = so.markers ++ model_marker m ∷ [];
      first_tokens = reads.tokens;
      first_stands = reads.stands;
      marked = reads.marked so.markers so.marked;
      second_tokens = writes.tokens;
      second_stands = writes.stands;
      matched = writes.matched (so.markers ++ model_marker m ∷ []) (matched_marker q so.markers (model_marker m) so.second_tokens so.matched);
      written = search (rules, text_of-snoc, Appends-trans);
    }

module _ (q : Profile) (first second sink : Device) (first_now : Option (List ℕ)) (a b : Reading)
    (so : BothSoFar q first.before first_now second.before second.after a b sink.before sink.after) where
  abbrev at_marker : Comparison
  at_marker = record { progress = (read q so.second_tokens).progress; markers_left = []; fault = None }

  -- where `first` has no marker more, `second` is read no further
  last_marker : (xs us ts vs ws : List Token) → xs ≡ ts ++ vs → us ≡ so.second_tokens ++ ws
      → HasMarkers q ts so.markers → markers_from q (read q ts).progress vs ≡ [] → compared q xs us ≡ at_marker
  last_marker xs us ts vs ws first second marked none = search (rules, both_read, no_marker_ahead)

  written : HasTaken sink (written_by q at_marker)
  written = subst (HasTaken sink) (sym (append-nil (text_of q (read q so.second_tokens).progress.games))) so.written

  second_begins : IfSome second.before (Begins so.second_tokens)
  second_begins =
      IfSome_then second.before {P = λ r. AreShown r so.second_tokens} {Q = Begins so.second_tokens}
      (shown _ _ _ _ _ so.second_stands.has_given) (λ r shown. shown_begins r so.second_tokens shown)

  converted : (s r : List ℕ) (o : Option Fault) → compared q (tokens_of s) (tokens_of r) ≡ at_marker → (read q (tokens_of s)).fault ≡ o
      → AreConverted q s r (verdict_of (record { progress = (read q so.second_tokens).progress; fault = o })) sink
  converted s r o is fault = grind (arith, common_steps)

  pub both_end : (new_a : Reading) (t : Totals) → AllRead q first.before so.first_tokens new_a
      → new_a.converter.reading.writing.is_silent ≡ true → b.converter.reading.writing.is_silent ≡ false
      → t.games ≡ b.converter.games → t.plies ≡ plies_of_finished_games b.converter.reading
      → t.most_probes ≡ max new_a.converter.reading.most_probes b.converter.reading.most_probes
      → new_a.converter.reading.most_probes ≤ 1040 → b.converter.reading.most_probes ≤ 1040 → TwoReadingsConvert q first second sink (Ok t)
  both_end new_a t reads silent writes games plies probes first_bound second_bound =
      let tokens = reads.tokens in
      let h = so.second_stands.has_given.has_read in
      let c : Progress = (read q so.second_tokens).progress in
      let same : totals (record { games = length c.games; plies = sum (map plies_of c.games) }) ≡ verdict_in t =
      ap (λ n. totals (record { games = n; plies = sum (map plies_of c.games) })) (sym (games ∙ h.games))
      ∙ ap (λ n. totals (record { games = t.games; plies = n })) (sym (plies ∙ h.plies)) in
      both_known first.before second.before (λ s. (length s ≤ 2 ^ 62) × (tokens_of s ≡ tokens))
      (λ r. AreShown r so.second_tokens) (λ s r. AreTotalled q s r t sink) reads.whole (shown _ _ _ _ _ so.second_stands.has_given)
      (λ s r whole second_shown.
      let x = whole.1 in
      let y = shown_begins r so.second_tokens second_shown in
      let is = last_marker (tokens_of s) (tokens_of r) tokens [] y.0 (x ∙ sym (append-nil tokens)) y.1
      (reads.marked so.markers so.marked) refl in
      record {
        short = whole.0;
        us = so.second_tokens;
        second_shown = second_shown;
        no_marker_left = ap (λ (f : Comparison). f.markers_left) (last_marker (tokens_of s) so.second_tokens tokens [] []
            (x ∙ sym (append-nil tokens)) (sym (append-nil so.second_tokens)) (reads.marked so.markers so.marked) refl);
        converted = search (rules, converted);
        probes = search (rules, in_games);
      })

  -- `first` gives no token more
  ends_first : (tokens : List Token) (u : List ℕ) → (read q tokens).fault ≡ None
      → HasMarkers q tokens so.markers → tokens ≡ decided u → FirstStops q u second sink
  ends_first tokens u passes marked is_decided =
      record {
        passes = subst (λ (ts : List Token). (read q ts).fault ≡ None) is_decided passes;
        matched = IfSome_then second.before {P = Begins so.second_tokens} {Q = λ r. MatchesAllMarkers q (decided u) (tokens_of r) sink} second_begins
            (λ r y.
            let is = last_marker (decided u) (tokens_of r) tokens [] y.0 (sym is_decided ∙ sym (append-nil tokens)) y.1 marked refl in
            search (rules, written));
      }

  first_unread : {f : Fault} (tokens : List Token) → (read q tokens).fault ≡ None → HasMarkers q tokens so.markers
      → (f.reason ≡ ReadFault → FailsOnce first) → ReadFails first.before first.after tokens f → TwoReadingsFail q first second sink f
  first_unread tokens passes marked counts (ReadFails.unread u consumed short is_decided) =
      TwoReadingsFail.first_unread u consumed short (counts refl) (ends_first tokens u passes marked is_decided)
  first_unread tokens passes marked counts (ReadFails.too_long u rest consumed place some is_decided) =
      TwoReadingsFail.first_too_long u rest consumed place some (ends_first tokens u passes marked is_decided)

  first_at : (tokens : List Token) (t : Token) (reason : Reason) → (read q tokens).fault ≡ None → HasMarkers q tokens so.markers
      → ComesNext first.before tokens t → refusal q (part_after q tokens) t.kind ≡ Some reason
      → TwoReadingsFail q first second sink (record { at = t.at; reason = reason })
  first_at tokens t reason passes marked comes rejected =
      let f : Fault = record { at = t.at; reason = reason } in
      let c : Progress = (read q tokens).progress in
      let none : (ts : List Token) → markers_from q c (t ∷ ts) ≡ [] = λ ts. markers_test q c t ts ∙ ap (after_markers q c t ts) rejected in
      let fault : (ts : List Token) → (read q (tokens ++ t ∷ ts)).fault ≡ Some f = search (rules, read-refuses) in
      let at_it : compared q (tokens ++ t ∷ []) so.second_tokens ≡ at_marker =
      last_marker (tokens ++ t ∷ []) so.second_tokens tokens (t ∷ []) [] refl (sym (append-nil so.second_tokens)) marked (none []) in
      TwoReadingsFail.refused f
      (both_known first.before second.before (λ s. AreShown s (tokens ++ t ∷ []))
      (λ r. AreShown r so.second_tokens) (λ s r. AreRefused q s r f × AreConverted q s r (is_refused f) sink)
      comes (shown _ _ _ _ _ so.second_stands.has_given)
      (λ s r first_shown second_shown.
      let x = shown_begins s (tokens ++ t ∷ []) first_shown in
      let y = shown_begins r so.second_tokens second_shown in
      let cut : tokens_of s ≡ tokens ++ t ∷ x.0 = x.1 ∙ append_assoc tokens (t ∷ []) x.0 in (
        record {
          ts = tokens ++ t ∷ [];
          us = so.second_tokens;
          first_shown = first_shown;
          second_shown = second_shown;
          fault = ap (λ (z : Comparison). earlier_fault z.fault (read q (tokens ++ t ∷ [])).fault) at_it ∙ fault [];
        },
        converted s r (Some f) (last_marker (tokens_of s) (tokens_of r) tokens (t ∷ x.0) y.0 cut y.1 marked (none x.0))
            (ap (λ (ts : List Token). (read q ts).fault) cut ∙ fault x.0),
      )))

  pub first_stops : (f : Fault) → (f.reason ≡ ReadFault → FailsOnce first) → FirstFails q first.before first.after so.first_tokens f
      → TwoReadingsFail q first second sink f
  first_stops f counts r = by_why f counts r.why
    where
      by_why : (g : Fault) → (g.reason ≡ ReadFault → FailsOnce first) → WhyFirst q first.before first.after r.tokens g
          → TwoReadingsFail q first second sink g
      by_why g counts (readings.refused t reason comes rejected) = first_at r.tokens t reason r.passes (r.marked so.markers so.marked) comes rejected
      by_why g counts (readings.unread h fails) = first_unread r.tokens r.passes (r.marked so.markers so.marked) counts fails

module _ (q : Profile) (first second sink : Device) (first_now second_now mid : Option (List ℕ)) (a b : Reading)
    (so : BothSoFar q first.before first_now second.before second_now a b sink.before mid) (m : CodePlacedMarker) (new_a : Reading) (f : Fault)
    (reads : GameRead q first.before first.after so.first_tokens m new_a)
    (writes : SecondFails q second.before second.after so.second_tokens m f mid sink.after) where
  abbrev marker : PlacedMarker
  marker = model_marker m

  abbrev under : Profile
  under = with_marker q marker

  abbrev tokens : List Token
  tokens = writes.tokens

  abbrev c : Progress
  c = (read q tokens).progress

  abbrev first_tokens : List Token
  first_tokens = reads.tokens

  -- the markers behind this one
  abbrev behind : List Token → List PlacedMarker
  behind vs = markers_from q (read q first_tokens).progress vs

  first_decides : Decides first.before first.after first_tokens
  first_decides = decides q first.before first.after new_a first_tokens reads.stands.has_given

  goes : (xs us vs ws : List Token) → xs ≡ first_tokens ++ vs → us ≡ tokens ++ ws
      → compared q xs us ≡ compared_from q (marker ∷ behind vs) c ws
  goes xs us vs ws is also =
      ap (λ (l : List Token). compared q l us) is ∙ ap (compared q (first_tokens ++ vs)) also
      ∙ both_read q first_tokens tokens vs ws (so.markers ++ marker ∷ []) (marker ∷ [])
      (reads.marked so.markers so.marked)
      (writes.matched (so.markers ++ marker ∷ []) (matched_marker q so.markers marker so.second_tokens so.matched))

  -- what is written of this game stands behind the games
  all_written : (text : List ℕ) → Appends writes.mid sink.after text → HasTaken sink (text_of q c.games ++ (torn under c.part ++ text))
  all_written text wrote = grind (arith, common_steps)

  torn_written : Appends writes.mid sink.after [] → HasTaken sink (text_of q c.games ++ torn under c.part)
  torn_written wrote = subst (λ l. HasTaken sink (text_of q c.games ++ l)) (append-nil (torn under c.part)) (all_written [] wrote)

  -- `second` gives no token more
  ends_second : (u : List ℕ) → tokens ≡ decided u → Appends writes.mid sink.after [] → SecondStops q first u sink
  ends_second u is_decided wrote =
      let is = goes first_tokens (decided u) [] [] (sym (append-nil first_tokens)) (sym is_decided ∙ sym (append-nil tokens)) in
      record {
        tokens = first_tokens;
        decided_by = first_decides;
        fault = ap (λ (f : Comparison). f.fault) is;
        next_marker = (marker, [], ap (λ (f : Comparison). f.markers_left) is);
        appended = subst (λ (f : Comparison). HasTaken sink (written_by q f)) (sym is) (torn_written wrote);
      }

  second_unread : {f : Fault} → ReadFails second.before second.after tokens f
      → (changed_reason f.reason ≡ ReadFault → FailsOnce second) → Appends writes.mid sink.after []
      → TwoReadingsFail q first second sink (as_changed f)
  second_unread (ReadFails.unread u consumed short is_decided) counts wrote =
      TwoReadingsFail.second_unread u consumed short (counts refl) (ends_second u is_decided wrote)
  second_unread (ReadFails.too_long u rest consumed place some is_decided) counts wrote =
      TwoReadingsFail.second_too_long u rest consumed place some (ends_second u is_decided wrote)

  -- a write failed at a token
  stops_at : (t : Token) → is_changed q marker c.part t ≡ false → (n : ℕ) → n < length (gain under c.part t.kind)
      → Appends writes.mid sink.after (take n (gain under c.part t.kind))
      → (r : List ℕ) → AreShown r (tokens ++ t ∷ []) → WriteStops q first r t.at sink
  stops_at t same n short wrote r shown =
      let games : List ℕ = text_of q c.games in
      let before_it : List ℕ = torn under c.part in
      let more : List ℕ = gain under c.part t.kind in
      let markers : List PlacedMarker = markers_after (next c.part t.kind) marker [] in
      let none : first_tokens ≡ first_tokens ++ [] = sym (append-nil first_tokens) in
      let at_front : compared q first_tokens tokens ≡ record { progress = c; markers_left = marker ∷ []; fault = None } =
      goes first_tokens tokens [] [] none (sym (append-nil tokens)) in
      let at_token : compared q first_tokens (tokens ++ t ∷ []) ≡ record { progress = progress_after c t; markers_left = markers; fault = None } =
      goes first_tokens (tokens ++ t ∷ []) [] (t ∷ []) none refl ∙ change_test q marker [] c t [] ∙ ap (after_change q marker [] c t []) same in
      let text : written_by q (compared q first_tokens (tokens ++ t ∷ [])) ≡ (games ++ before_it) ++ more =
      search (rules, written_at_token, not_changed, next_is, append_assoc) in
      let front : games ++ (before_it ++ take n more) ≡ take (length (games ++ before_it) + n) ((games ++ before_it) ++ more) =
      sym (append_assoc games before_it (take n more)) ∙ sym (take-append-add (games ++ before_it) more n) in
      record {
        tokens = first_tokens;
        decided_by = first_decides;
        front = tokens;
        token = t;
        shown = shown;
        place = refl;
        fault = ap (λ (f : Comparison). f.fault) at_token;
        count = length (games ++ before_it) + n;
        least = subst (λ (f : Comparison). length (written_by q f) ≤ length (games ++ before_it) + n) (sym at_front) (omega arith);
        short = subst (λ (l : List ℕ). length (games ++ before_it) + n < length l)
            (sym text) (omega (arith, short, length-append (games ++ before_it) more));
        appended = search (rules, all_written);
      }

  second_differs : (t : Token) → ComesNext second.before tokens t → is_changed q marker c.part t ≡ true → Appends writes.mid sink.after []
      → TwoReadingsFail q first second sink (record { at = t.at; reason = Changed })
  second_differs t comes changed wrote =
      let f : Fault = record { at = t.at; reason = Changed } in
      let is : (xs us vs ws : List Token) → xs ≡ first_tokens ++ vs → us ≡ tokens ++ t ∷ ws
      → compared q xs us ≡ record { progress = c; markers_left = marker ∷ behind vs; fault = Some f } =
      λ xs us vs ws first_cut second_cut. goes xs us vs (t ∷ ws) first_cut second_cut ∙ change_test q marker (behind vs) c t ws
      ∙ ap (after_change q marker (behind vs) c t ws) changed in
      TwoReadingsFail.refused f
      (both_known first.before second.before (λ s. AreShown s first_tokens) (λ r. AreShown r (tokens ++ t ∷ []))
      (λ s r. AreRefused q s r f × AreConverted q s r (is_refused f) sink) (shown _ _ _ _ _ reads.stands.has_given) comes
      (λ s r first_shown second_shown.
      let x = shown_begins s first_tokens first_shown in
      let y = shown_begins r (tokens ++ t ∷ []) second_shown in
      let all = is (tokens_of s) (tokens_of r) x.0 y.0 x.1 (y.1 ∙ append_assoc tokens (t ∷ []) y.0) in (
        record {
          ts = first_tokens;
          us = tokens ++ t ∷ [];
          first_shown = first_shown;
          second_shown = second_shown;
          fault = ap (λ (z : Comparison). earlier_fault z.fault (read q first_tokens).fault)
              (is first_tokens (tokens ++ t ∷ []) [] [] (sym (append-nil first_tokens)) refl);
        },
        (
          ap (λ (z : Comparison). verdict_of (record { progress = z.progress; fault = earlier_fault z.fault (read q (tokens_of s)).fault })) all,
          subst (λ (z : Comparison). HasTaken sink (written_by q z)) (sym all) (torn_written wrote),
        ),
      )))

  pub second_stops : (f.reason ≡ ReadFault → FailsOnce second) → TwoReadingsFail q first second sink f
  second_stops counts = by_why f counts writes.why
    where
      by_why : (g : Fault) → (g.reason ≡ ReadFault → FailsOnce second) → WhySecond q second.before second.after tokens m writes.mid sink.after g
          → TwoReadingsFail q first second sink g
      by_why g counts (readings.differs t comes changed wrote) = second_differs t comes changed wrote
      by_why g counts (readings.unwritten t comes same (n, short, wrote)) =
          TwoReadingsFail.unwritten t.at
          (IfSome_then second.before {P = λ r. AreShown r (tokens ++ t ∷ [])}
          {Q = λ r. WriteStops q first r t.at sink} comes (stops_at t same n short wrote))
      by_why g counts (readings.unread e fails wrote) = second_unread fails counts wrote
