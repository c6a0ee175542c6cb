-- Conversions of whole inputs.
use Rattle.pgn_game.proofs.Words.{Token, InputTooLong, Fault, Profile, ◌≡◌, ℕ, false, ◌^◌, ◌≤◌, List, [], ◌++◌, length, Option, None, Some, Result, Ok, Err, IfSome, OnOk, sym, ap, subst, ◌∙◌, append-nil, map, sum, Consumes-nil, Consumes-trans, tokens_of, decided, plies_of, plies_of_finished_games, Gains, IsConverted, IsTotalled, MostProbes, ReadsNoMore, FailsOn, Fails, AfterEnd, AfterConversion, AfterSlice, verdict_in, Games, games_of, HaveRead, NextGame, NoGame, NextStops, ReadSoFar, GameState, Bool, Appends, Consumes, Totals, Read, read, due, refused as is_refused, totals, verdict, verdict_of, Converter, HasRead, Stands, Stops, refused_stop as refused, unwritten, StopsIn, at_token, too_long, FedFault, FedWhole, ReadsUpTo, Finishes, rules, no_progress, refl, writing_nothing, IsAtEnd, AreShown, IsRefused, arith, common_steps}
use Rattle.pgn_game.specs.public.GamesCalls as games_calls
use Rattle.pgn_game.specs.public.Conversion as conversion
use Rattle.pgn_game.proofs.stepping.OneMoreToken.{torn-none, gains_none, gains_more, stops_more, stops_from}
use Rattle.pgn_game.specs.public.ConverterCalls.{at_end}
use Rattle.pgn_game.proofs.stepping.AcceptedToConverter.{in_games}
use Rattle.pgn_game.proofs.stepping.MissingCountsAs.{reads_silently, stands_silently}
use Rattle.pgn_game.proofs.stepping.BytesWithinLimit.{all_shown, decides_by, shown_begins, shown_by}

pub verdict_passes : (r : Read) → r.fault ≡ None
    → verdict_of r ≡ totals (record { games = length r.progress.games; plies = sum (map plies_of r.progress.games) })
verdict_passes r e = rw e

verdict_refused : (r : Read) {f : Fault} → r.fault ≡ Some f → verdict_of r ≡ is_refused f
verdict_refused r e = rw e

-- the counts of a converter that has read the whole text are those of the text
module _ {p : Profile} where
  pub totalled : {s : List ℕ} {c : Converter} (t : Totals) → HasRead p c (tokens_of s) → t.games ≡ c.games
      → t.plies ≡ plies_of_finished_games c.reading
      → t.most_probes ≡ c.reading.most_probes → t.most_probes ≤ 1040
      → (verdict p s ≡ verdict_in t) × MostProbes c.reading.writing.is_silent p s t.most_probes
  totalled t has games plies probes bound = search (rules, in_games, verdict_passes)

  pub ended : {u : List ℕ} {given : List Token} {new : Converter} {finished_game : _} (t : Totals) {a c : Option (List ℕ)}
      → Finishes p u given new finished_game a c → t.games ≡ new.games → t.plies ≡ plies_of_finished_games new.reading
      → t.most_probes ≡ new.reading.most_probes → t.most_probes ≤ 1040 → AfterEnd new.reading.writing.is_silent p u given (Ok t) a c
  ended t done games plies probes bound = grind (arith, common_steps, totalled)

  pub appended : {tokens : List Token} {a c : Option (List ℕ)} → Gains p [] tokens a c → Appends a c (due p tokens)
  appended {tokens} {a} {c} gains = grind (arith, common_steps, torn-none)

  pub none_read : {c : Converter} {left : Option (List ℕ)} → Stands p c [] None [] → c.is_finished ≡ false → HaveRead p left [] (games_of c []) []
  none_read stands not_finished = search rules

  pub read_none : {now : Games} (left : Option (List ℕ)) {o : Option (List ℕ)} → HaveRead p left [] now [] → ReadSoFar p left left now o o
  read_none left have = search (rules, Consumes-nil, gains_none)

-- where nothing is written from now on
pub read_none_silently : (p : Profile) (left : Option (List ℕ)) (u : List ℕ) (now : Games) → HaveRead p left u now []
    → HaveRead p left u (games_of (writing_nothing now.converter) now.unused) []
read_none_silently p left u now h1 = search (rules, stands_silently, reads_silently)

no_more : {p : Profile} {u : List ℕ} {tokens : List Token} {a c : Option (List ℕ)} → tokens ≡ decided u
    → (read p tokens).fault ≡ None → Gains p [] tokens a c → ReadsNoMore p u a c
no_more is_decided passes gains = grind (arith, common_steps, appended)

-- the tokens up to a rejected one decide the verdict
module _ {p : Profile} (s : List ℕ) {tokens : List Token} where
  refused_text : (more : List Token) {f : Fault} {a c : Option (List ℕ)} → tokens_of s ≡ tokens ++ more → (read p tokens).fault ≡ Some f
      → Gains p [] tokens a c → IsConverted p s (is_refused f) a c
  refused_text more cut fault gains =
      let same : read p (tokens_of s) ≡ read p tokens = ap (read p) cut ∙ stops_from p no_progress tokens more fault in
      search (rules, verdict_refused, appended)

  -- and that its bytes before place 2^62 show it
  refused_by : {f : Fault} {a c : Option (List ℕ)} → AreShown s tokens → (read p tokens).fault ≡ Some f → Gains p [] tokens a c
      → IsRefused p s f × IsConverted p s (is_refused f) a c
  refused_by shown fault gains =
      let here = shown_begins s tokens shown in search (rules, refused_text)

refused_at_end : {p : Profile} (s : List ℕ) {f : Fault} {a c : Option (List ℕ)} → length s ≤ 2 ^ 62
    → (read p (tokens_of s)).fault ≡ Some f → Gains p [] (tokens_of s) a c → IsRefused p s f × IsConverted p s (is_refused f) a c
refused_at_end s short fault gains = refused_by s (at_end short [] (sym (append-nil (tokens_of s)))) fault gains

pub known_left : (o n : Option (List ℕ)) (u : List ℕ) (P : List ℕ → Type 0)
    → Consumes o n u → ((rest : List ℕ) → P (u ++ rest)) → IfSome o P
known_left o n u P h all = search rules

pub known_whole : (o n : Option (List ℕ)) (u : List ℕ) (P : List ℕ → Type 0) → Consumes o n u → IsAtEnd n → P u → IfSome o P
known_whole o n u P h end here = search (rules, append-nil)

-- ---- games read in turn

module _ (p : Profile) (left_old left left_new : Option (List ℕ)) (now : Games)
    (a c d : Option (List ℕ)) (so : ReadSoFar p left_old left now a c) where
  all : (more : List ℕ) → Consumes left left_new more → Consumes left_old left_new (so.bytes ++ more)
  all more consumed = Consumes-trans left_old left left_new so.bytes more so.consumed consumed

  pub games_more : {new : Games} → NextGame p so.bytes so.tokens left left_new new c d → ReadSoFar p left_old left_new new a d
  games_more game = search (rules, all, gains_more)

  pub games_end : {new : Games} (t : Totals) → NoGame p so.bytes so.tokens left left_new new c d
      → t.games ≡ new.converter.games → t.plies ≡ plies_of_finished_games new.converter.reading
      → t.most_probes ≡ new.converter.reading.most_probes → t.most_probes ≤ 1040
      → AfterConversion new.converter.reading.writing.is_silent p left_old left_new (Ok t) a d
  games_end {new} t end games plies probes bound =
      let text = so.bytes ++ end.more in
      let (is_verdict, most) = totalled t end.have_read_all.has_read games plies probes bound in
      known_whole left_old left_new text (λ s. IsTotalled new.converter.reading.writing.is_silent p s t a d) (all end.more end.consumed) end.have_read_all.at_end
      (record { short = end.have_read_all.short; converted = (is_verdict, appended (gains_more so.gains end.gains)); probes = most })

  pub games_stop : {r : GameState} {f : Fault} → NextStops p so.bytes so.tokens left left_new r c d f → Fails p left_old left_new a d f
  games_stop (games_calls.at_token g more consumed to) = by_stops (stops_more so.gains to.stops)
    where
      by_stops : {h : Fault} → Stops p [] to.tokens a d h → Fails p left_old left_new a d h
      by_stops (refused h fault gains) =
          conversion.refused h (known_left left_old left_new (so.bytes ++ more) (λ s. IsRefused p s h × IsConverted p s (is_refused h) a d)
          (all more consumed) (λ rest. refused_by ((so.bytes ++ more) ++ rest) (shown_by _ (so.bytes ++ more) rest to.tokens refl to.next) fault gains))
      by_stops (unwritten at writing) =
          conversion.unwritten to.tokens at (decides_by left_old left_new (so.bytes ++ more) to.tokens (all more consumed) to.next) writing
  games_stop (games_calls.at_end g more consumed end short to) = by_stops (stops_more so.gains to.stops)
    where
      by_stops : {h : Fault} → Stops p [] (tokens_of (so.bytes ++ more)) a d h → Fails p left_old left_new a d h
      by_stops (refused h fault gains) =
          conversion.refused h (known_whole left_old left_new (so.bytes ++ more) (λ s. IsRefused p s h × IsConverted p s (is_refused h) a d)
          (all more consumed) end (refused_at_end (so.bytes ++ more) short fault gains))
      by_stops (unwritten at writing) =
          let text = so.bytes ++ more in
          conversion.unwritten (tokens_of text) at
          (conversion.Decides.at_end text (all more consumed) short (known_whole left_old left_new text (λ s. s ≡ text) (all more consumed) end refl)
          ([], sym (append-nil (tokens_of text)))) writing
  games_stop (games_calls.unread more consumed short none) =
      conversion.unread (so.bytes ++ more) (all more consumed) short
      (no_more none.reads.decided none.reads.passes (gains_more so.gains none.reads.gains))
  games_stop (games_calls.too_long more front rest consumed cut place some none) =
      subst (λ n. Fails p left_old left_new a d (record { at = n; reason = InputTooLong })) place
      (conversion.too_long front rest (subst (Consumes left_old left_new) cut (all more consumed)) place some
      (no_more none.reads.decided none.reads.passes (gains_more so.gains none.reads.gains)))

-- a text that was converted has at most 2^62 bytes
module _ (silent : Bool) (p : Profile) where
  pub is_short : (left_old left_new a c : Option (List ℕ)) (r : Result Totals Fault) → AfterConversion silent p left_old left_new r a c
      → OnOk r (IfSome left_old (λ s. length s ≤ 2 ^ 62))
  is_short left_old left_new a c r h = search rules

  pub is_short_slice : (text : List ℕ) (a c : Option (List ℕ)) (r : Result Totals Fault) → AfterSlice silent p text r a c
      → OnOk r (length text ≤ 2 ^ 62)
  is_short_slice text a c r h = search rules

-- a slice, fed from the start on
pub slice_stops : (p : Profile) {f : Fault} {text : List ℕ} (a c : Option (List ℕ))
    → StopsIn [] text (λ bytes fault. FedFault p bytes [] fault a c) (λ front. ReadsUpTo p [] front a c) f → FailsOn p text a c f
slice_stops p {text} a c (at_token g fed) = by_stops fed.stops
  where
    by_stops : {h : Fault} → Stops p [] fed.tokens a c h → FailsOn p text a c h
    by_stops (refused h fault gains) =
        let refuses = refused_by text (all_shown text fed.tokens fed.next) fault gains in
        conversion.FailsOn.refused h refuses.0 refuses.1
    by_stops (unwritten at writing) = conversion.FailsOn.unwritten fed.tokens at (all_shown text fed.tokens fed.next) writing
slice_stops p {text} a c (too_long front rest cut place some before) =
    subst (λ n. FailsOn p text a c (record { at = n; reason = InputTooLong })) place
    (conversion.FailsOn.too_long front rest cut place some (no_more before.decided before.passes before.gains))

pub slice_ends : (silent : Bool) {p : Profile} {text : List ℕ} {now : Converter} {a c : Option (List ℕ)} (d : Option (List ℕ))
    (r : Result Totals Fault) (fed : FedWhole p [] [] text now a c) → length text ≤ 2 ^ 62 → AfterEnd silent p text fed.tokens r c d → AfterSlice silent p text r a d
slice_ends silent d (Ok t) fed short (is_verdict, probes, gains) = search (rules, appended, gains_more)
slice_ends silent {p} {text} {a} d (Err f) fed short stops = by_stops (stops_more fed.gains stops)
  where
    by_stops : {h : Fault} → Stops p [] (tokens_of text) a d h → FailsOn p text a d h
    by_stops (refused h fault gains) =
        let refuses = refused_at_end text short fault gains in
        conversion.FailsOn.refused h refuses.0 refuses.1
    by_stops (unwritten at writing) =
        conversion.FailsOn.unwritten (tokens_of text) at (at_end short [] (sym (append-nil (tokens_of text)))) writing
