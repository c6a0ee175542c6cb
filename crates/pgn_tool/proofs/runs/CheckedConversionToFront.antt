-- A run that reads the same text twice has written a prefix of its output, whichever device fails.
use Rattle.pgn_tool.proofs.Words.{◌≡◌, ◌∙◌, ℕ, List, ◌∷◌, ◌++◌, length, take, Option, Some, [], ap, append_assoc, append-nil, subst, sym, take-append_seam, Result, Ok, Err, Appends, Consumes, Device, Token, tokens_of, decided, Fault, Totals, Profile, takes_the_marker, Verdict, due, output, AreConverted, IsTokenPrefix, TwoReadingsConvert, Decides, FirstStops, SecondStops, TwoReadingsFail, HasTaken, first_too_long, first_unread, second_too_long, second_unread, unwritten, EqualReadings, InterruptedReadings, HasFront, Gives, arith, common_steps, AreShown}
use Rattle.pgn_lexer.specs.Laws.{DecidedIsPrefix}
use Rattle.pgn_game.specs.laws.Laws.{DueGrows, IsPrefix}
use Rattle.pgn_game.specs.public.Checked.{compared, written_by}

front_is : (out : Device) (written whole : List ℕ) → IsPrefix written whole → HasTaken out written → HasFront out whole
front_is out written whole prefix taken =
    (length written, subst (Appends out.before out.after) (sym (ap (take (length written)) prefix.1 ∙ take-append_seam written prefix.0)) taken)

-- what was consumed of a text, and what is left
left_of : (s : List ℕ) (new : Option (List ℕ)) (u : List ℕ) → Consumes (Some s) new u → (x : List ℕ) × (s ≡ u ++ x)
left_of s new u consumed = grind (arith, common_steps)

-- a text begins with the tokens that it shows
shown_begins : (s : List ℕ) (ts : List Token) → AreShown s ts → IsTokenPrefix ts (tokens_of s)
shown_begins s ts (AreShown.so_far front rest is short next) = ((next rest).0, ap tokens_of is ∙ (next rest).1)
shown_begins s ts (AreShown.at_end short rest cut) = (rest, cut)

front_left : {s : List ℕ} (u rest : List ℕ) → ((x : List ℕ) × (s ≡ (u ++ rest) ++ x)) → (x : List ℕ) × (s ≡ u ++ x)
front_left u rest x = (rest ++ x.0, x.1 ∙ append_assoc u rest x.0)

module _ (decides : DecidedIsPrefix) (grows : DueGrows) (equal : EqualReadings) (interrupted : InterruptedReadings)
    (p : Profile) (takes : p.missing_result ≡ takes_the_marker) (s : List ℕ) (first second out : Device)
    (first_gives : Gives s first) (second_gives : Gives s second) where
  rest_of : (d : Device) → Gives s d → (u : List ℕ) → Consumes d.before d.after u → (x : List ℕ) × (s ≡ u ++ x)
  rest_of d gives u consumed = left_of s d.after u (rw gives at consumed)

  converted : (v : Verdict) → AreConverted p s s v out → HasFront out (output p s)
  converted v h = front_is out _ _ ([], sym (append-nil (output p s))) (subst (HasTaken out) (equal p s takes).1 h.1)

  ends_first : (u : List ℕ) → ((x : List ℕ) × (s ≡ u ++ x)) → FirstStops p u second out → HasFront out (output p s)
  ends_first u x ends =
      let h = decides u x.0 in
      let all : IsPrefix (due p (decided u)) (output p s) =
      subst (λ (t : List ℕ). IsPrefix (due p (decided u)) (output p t)) (sym x.1)
      (subst (λ (ts : List Token). IsPrefix (due p (decided u)) (due p ts)) (sym h.1) (grows p (decided u) h.0)) in
      let so = rw second_gives at ends.matched in
      let law = interrupted.first_stops p u x.0 takes in
      let text : written_by p (compared p (decided u) (tokens_of s)) ≡ due p (decided u) =
      ap (λ (t : List ℕ). written_by p (compared p (decided u) (tokens_of t))) x.1 ∙ law.written in
      front_is out _ _ all (subst (HasTaken out) text so.appended)

  begins : (ts : List Token) → Decides first.before first.after ts → IsTokenPrefix ts (tokens_of s)
  begins ts (Decides.so_far u more consumed few goes) =
      let x = front_left u more (rest_of first first_gives (u ++ more) consumed) in
      subst (λ (t : List ℕ). IsTokenPrefix ts (tokens_of t)) (sym x.1) (goes x.0)
  begins ts (Decides.at_end u consumed few all goes) = grind (arith, common_steps, tokens_of)

  ends_second : (u : List ℕ) → ((x : List ℕ) × (s ≡ u ++ x)) → SecondStops p first u out → HasFront out (output p s)
  ends_second u x ends =
      let h = begins ends.tokens ends.decided_by in
      let law =
      interrupted.second_stops p u x.0 ends.tokens h.0 ends.next_marker.0 ends.next_marker.1 takes (ap tokens_of (sym x.1) ∙ h.1)
      ends.next_marker.2 in
      front_is out _ _
      (subst (λ (t : List ℕ). IsPrefix (written_by p (compared p ends.tokens (decided u))) (output p t)) (sym x.1) law.most) ends.appended

  fails : (f : Fault) → TwoReadingsFail p first second out f → HasFront out (output p s)
  fails _ (TwoReadingsFail.refused f known) = converted _ (rw (first_gives, second_gives) at known).1
  fails _ (first_unread u consumed few failed ends) = ends_first u (rest_of first first_gives u consumed) ends
  fails _ (first_too_long u rest consumed long more ends) = ends_first u (front_left u rest (rest_of first first_gives (u ++ rest) consumed)) ends
  fails _ (second_unread u consumed few failed ends) = ends_second u (rest_of second second_gives u consumed) ends
  fails _ (second_too_long u rest consumed long more ends) = ends_second u (front_left u rest (rest_of second second_gives (u ++ rest) consumed)) ends
  fails _ (unwritten at known) =
      let h = rw second_gives at known in
      let x = begins h.tokens h.decided_by in
      let y = shown_begins s (h.front ++ h.token ∷ []) h.shown in
      let cut = y.1 ∙ append_assoc h.front (h.token ∷ []) y.0 in
      front_is out _ _ (interrupted.write_fails p s h.tokens x.0 h.front y.0 h.token h.count takes x.1 cut) h.appended

  pub front_written : (answer : Result Totals Fault) → TwoReadingsConvert p first second out answer → HasFront out (output p s)
  front_written (Ok t) converts = converted _ (rw (first_gives, second_gives) at converts).converted
  front_written (Err f) converts = fails f converts
