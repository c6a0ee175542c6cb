-- Two equal readings: the most pairs tried are those of the second one.
use Rattle.pgn_game.proofs.Words.{◌≡◌, ℕ, max, Bool, false, List, [], ◌∷◌, ◌++◌, None, refl, sym, ap, subst, ◌∙◌, append-nil, arith, Token, TokensRise, RisesTo, tokens_of, Profile, takes_the_marker, Game, no_part, Next, next, Progress, no_progress, progress_with, progress_after, Read, read, read_from, verdict, verdict_of, PlacedMarker, Comparison, compared, compared_from, markers_after, markers_from, is_changed, MostFrom, MostTried, Totals, Device, verdict_in, IsTotalled, IsTrue, play_moves, append_cancel_left, AreTotalled, HasTaken, MostOfBoth, EqualTotals, common_steps, rules}
use Rattle.pgn_game.proofs.EqualReadings.{equal_readings, after_change, change_test, compared_same, ends, Same}
use Rattle.pgn_game.proofs.reading.RunsToEnd.{kinds, from_read}
use Rattle.pgn_game.proofs.stepping.NoneBeforeFault.{reads_behind}
use Rattle.pgn_game.proofs.stepping.PairsTriedBetweenGames.{none_tried}
use Rattle.pgn_game.proofs.stepping.PairsTriedForToken.{most_then}
use Rattle.pgn_game.proofs.stepping.PairsTriedSilently.{tries_fewer}

-- At the last marker no game is begun, if that was so before the first token.
abbrev EndsBetween : Comparison → Type 0
EndsBetween f = f.fault ≡ None → f.markers_left ≡ [] → f.progress.part ≡ no_part

by_change : (p : Profile) (m : PlacedMarker) (ms : List PlacedMarker) (b : Progress) (t : Token) (ts : List Token) (changed : Bool)
    → EndsBetween (compared_from p (markers_after (next b.part t.kind) m ms) (progress_after b t) ts) → EndsBetween (after_change p m ms b t ts changed)
by_change p m ms b t ts changed rest = search rules

-- a token that finishes no game leaves its marker
between_next : (n : Next) (m : PlacedMarker) (ms : List PlacedMarker) (games : List Game) → markers_after n m ms ≡ []
    → (progress_with games n).part ≡ no_part
between_next n m ms games none = search rules

last_marker : (p : Profile) (ms : List PlacedMarker) (b : Progress) (us : List Token) → (ms ≡ [] → b.part ≡ no_part)
    → EndsBetween (compared_from p ms b us)
last_marker p ms b [] between = λ same none. between none
last_marker p [] b (t ∷ ts) between = λ same none. between refl
last_marker p (m ∷ ms) b (t ∷ ts) between =
    let n = next b.part t.kind in
    subst EndsBetween (sym (change_test p m ms b t ts))
    (by_change p m ms b t ts (is_changed p m b.part t)
    (last_marker p (markers_after n m ms) (progress_after b t) ts (between_next n m ms b.games)))

rises_behind : (front : List Token) (t : Token) (rest : List Token) → RisesTo (front ++ t ∷ rest) → RisesTo (t ∷ rest)
rises_behind [] t rest rises = rises
rises_behind (x ∷ []) t rest rises = rises.2
rises_behind (x ∷ y ∷ front) t rest rises = rises_behind (y ∷ front) t rest rises.2

-- Behind the last marker the tokens try none.
none_behind : (p : Profile) (b : Progress) (front rest : List Token) → RisesTo (front ++ rest) → b.part ≡ no_part
    → (read_from p b rest).fault ≡ None → (read_from p b rest).progress.games ≡ b.games → MostFrom false p b rest 0
none_behind p b front [] rises between passes same = MostFrom.none b
none_behind p b front (t ∷ ts) rises between passes same =
    let on = from_read p b (t ∷ ts) (rises_behind front t ts rises) passes in
    let none = append_cancel_left b.games on.0 [] (sym on.1.same ∙ same ∙ sym (append-nil b.games)) in search (rules, none_tried, kinds)

-- a verdict with totals has no fault
no_fault : (r : Read) (t : Totals) → verdict_of r ≡ verdict_in t → r.fault ≡ None
no_fault r t is = grind (arith, common_steps)

module _ (rise : TokensRise) (p : Profile) (s : List ℕ) (t : Totals) (sink : Device) (takes : p.missing_result ≡ takes_the_marker)
    (both : AreTotalled p s s t sink) where
  abbrev ts : List Token
  ts = tokens_of s

  abbrev tried : MostOfBoth p ts ts t.most_probes
  tried = both.probes.tried

  -- the progress of the second reading at the last marker
  abbrev b : Progress
  b = (read p tried.front).progress

  verdict_is : verdict p s ≡ verdict_in t
  verdict_is = sym (equal_readings rise p s takes).0 ∙ both.converted.0

  passes : (read p ts).fault ≡ None
  passes = no_fault (read p ts) t verdict_is

  alike : Same (compared p ts ts) (read p ts).progress.games
  alike = rw (append-nil ts) at (compared_same p no_progress ts [] (ends ts (rise s)))

  reads : read p ts ≡ read_from p b tried.rest
  reads = ap (read p) tried.cut ∙ reads_behind p no_progress tried.front tried.rest tried.passes

  between : b.part ≡ no_part
  between =
      ap (λ (c : Progress). c.part) tried.same
      ∙ last_marker p (markers_from p no_progress ts) no_progress ts (λ none. refl) alike.fault alike.markers_left

  no_more : (read_from p b tried.rest).progress.games ≡ b.games
  no_more = ap (λ (r : Read). r.progress.games) (sym reads) ∙ sym alike.games ∙ ap (λ (c : Progress). c.games) (sym tried.same)

  none : MostFrom false p b tried.rest 0
  none = none_behind p b tried.front tried.rest (subst RisesTo tried.cut (rise s)) between (ap (λ (r : Read). r.fault) (sym reads) ∙ passes) no_more

  -- So the second reading's are those of the whole text.
  of_second : MostTried false p ts tried.most_of_second
  of_second = grind (arith, common_steps, most_then, none, max)

  is_second : t.most_probes ≡ tried.most_of_second
  is_second = let fewer = tries_fewer p tried.first_tried of_second passes in omega (arith, fewer, tried.greater)

  one_reading : IsTotalled false p s t sink.before sink.after
  one_reading =
      record {
        short = both.short;
        converted = (verdict_is, subst (HasTaken sink) (equal_readings rise p s takes).1 both.converted.1);
        probes =
            record {
              most = both.probes.most;
              some = λ has. both.probes.some (subst (λ gs. IsTrue (play_moves gs)) (sym alike.games) has);
              tried = subst (MostTried false p ts) (sym is_second) of_second;
            };
      }

pub equal_totals : TokensRise → EqualTotals
equal_totals rise = record { most = is_second rise; totalled = one_reading rise }
