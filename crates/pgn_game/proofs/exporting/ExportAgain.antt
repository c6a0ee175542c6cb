-- An export text is read as its games with their defaults filled in, so it is written again as it
-- is.
use Rattle.pgn_game.proofs.Words.{◌≡◌, ℕ, ◌+◌, ◌≤◌, ◌^◌, inl, inr, Bool, true, List, [], ◌∷◌, ◌++◌, length, map, refl, subst, arith, length-append, append-nil, Option, None, Some, sum, IfSome, Err, filter, Consumes, length-map, length-filter, count_by-le-length, IsLast, RisesTo, TokensRise, tokens_of, Kind, Token, Fault, Between, Game, Part, Mode, Pair, Profile, Progress, progress_after, read_from, output, verdict, refused as is_refused, totals, refusal, is_end, filled, AreExportable, SameText, counted, IsWrittenAgain, SliceIsKept, SourceIsKept, FixedPoint, ExportIsKept, ExportIsKeptOfSource, games_in, IsExportable, ExportingTwice, SameOutput, FewPairsHaveRoom, plies_of, roster, roster_pairs, with_set_up, exported, Spells, FailsOn, Fails, Totals, text_of_games as text_of, rules, common_steps}
use Rattle.pgn_game.specs.public.Conversion as conversion
use Rattle.pgn_game.proofs.exporting.ExportToGames.{ExportedGames}
use Rattle.pgn_game.proofs.reading.PairsInTurn.{length-insert}
use Rattle.pgn_game.proofs.pairs.ExportedValues.{set_up, set_up_if, without_set_up}
use Rattle.pgn_game.specs.laws.UniqueReading.{UniqueReading}
use Rattle.pgn_game.proofs.stepping.StepsAtEnd.{end_passes}
use Rattle.pgn_game.proofs.putting.PairStepToReader.{no_torn}
use Rattle.pgn_game.proofs.stepping.OneMoreToken.{first_passes, goes_on}
use Rattle.pgn_game.proofs.stepping.WholeInput.{verdict_passes}

-- Where all is read without a fault, reading ends between games.
passing_last : (p : Profile) (part : Part) (k : Kind) → IsLast k → refusal p part k ≡ None → is_end k ≡ true
unfolding refusal
passing_last p part k h1 h2 = search rules

ends_between : (p : Profile) (b : Progress) (ts : List Token) → RisesTo ts
    → (read_from p b ts).fault ≡ None → (read_from p b ts).progress.part.stage ≡ Between
ends_between p b [] rises e = absurd rises
ends_between p b (t ∷ []) rises e = search (rules, end_passes, first_passes, goes_on, passing_last)
ends_between p b (t ∷ u ∷ us) rises e =
    let here = goes_on p b t (u ∷ us) (first_passes p b t (u ∷ us) e) in
    rw here (ends_between p (progress_after b t) (u ∷ us) rises.2 (rw here at e))

module _ (unique : UniqueReading) (rise : TokensRise) where
  -- a text that spells games is converted to theirs
  pub output_is : (p : Profile) (s : List ℕ) (gs : List Game) → Spells p (tokens_of s) gs → output p s ≡ text_of p gs
  output_is p s gs spelled = search (rules, append-nil, ends_between, no_torn)

  pub verdict_is : (p : Profile) (s : List ℕ) (gs : List Game) → Spells p (tokens_of s) gs → verdict p s ≡ totals (counted gs)
  verdict_is p s gs spelled = search (rules, verdict_passes)

no_fault : (p : Profile) (s : List ℕ) (gs : List Game) (f : Fault) → verdict p s ≡ totals (counted gs) → verdict p s ≡ is_refused f → ⊥
no_fault p s gs f e h = cc

same_totals : (t : Totals) (gs : List Game) → totals (counted gs) ≡ totals (record { games = t.games; plies = t.plies })
    → (t.games ≡ length gs) × (t.plies ≡ sum (map plies_of gs))
same_totals t gs e = search rules

written_again : (silent : Bool) (p : Profile) (s : List ℕ) (gs : List Game) (t : Totals) (before after : Option (List ℕ))
    → output p s ≡ text_of p gs → verdict p s ≡ totals (counted gs)
    → conversion.IsTotalled silent p s t before after → IsWrittenAgain p gs t before after
written_again silent p s gs t before after out ver h = search (rules, same_totals)

slice_fails : (p : Profile) (s : List ℕ) (gs : List Game) (f : Fault) (before after : Option (List ℕ))
    → verdict p s ≡ totals (counted gs) → length s ≤ 2 ^ 62 → FailsOn p s before after f → SliceIsKept p gs (Err f) before after
slice_fails p s gs _ before after ver short (conversion.FailsOn.refused f in_time h) = absurd (no_fault p s gs f ver h.0)
slice_fails p s gs _ before after ver short (conversion.FailsOn.unwritten tokens at shown stops) = refl
slice_fails p s gs _ before after ver short (conversion.FailsOn.too_long u rest e long some none) = search (rules, length-append)

some_text : (o : Option (List ℕ)) (s : List ℕ) (P : List ℕ → Type 0) → o ≡ Some s → IfSome o P → P s
some_text o s P e h = let Q : Option (List ℕ) → Type 0 = λ x. IfSome x P in subst Q e h

consumed_fits : (o n : Option (List ℕ)) (s u : List ℕ) → o ≡ Some s → Consumes o n u → length u ≤ length s
consumed_fits o n s u e h = search (rules, length-append)

source_fails : (p : Profile) (s : List ℕ) (gs : List Game) (f : Fault) (left_old left_new before after : Option (List ℕ))
    → verdict p s ≡ totals (counted gs) → length s ≤ 2 ^ 62
    → left_old ≡ Some s → Fails p left_old left_new before after f → SourceIsKept p gs (Err f) before after
source_fails p s gs _ left_old left_new before after ver short left (conversion.Fails.refused f h) = search (rules, no_fault, some_text)
source_fails p s gs _ left_old left_new before after ver short left (conversion.Fails.unread u consumed few none) = inl refl
source_fails p s gs _ left_old left_new before after ver short left (conversion.Fails.unwritten tokens at decided stops) = inr refl
source_fails p s gs _ left_old left_new before after ver short left (conversion.Fails.too_long u rest consumed long some none) =
    absurd (let fits = consumed_fits left_old left_new s (u ++ rest) left consumed in omega (arith, length-append u rest))

module _ (unique : UniqueReading) (rise : TokensRise)
    (exported_games : (p : Profile) (gs : List Game) → AreExportable p gs → ExportedGames p gs) where
  -- the games that the text spells are the only ones
  pub same_text : SameText
  same_text p gs hs h k = grind (arith, common_steps)

  counted_again : (p : Profile) (gs : List Game) → AreExportable p gs → counted (map (filled p.mode) gs) ≡ counted gs
  counted_again p gs h = search (rules, length-map)

  pub fixed_point : FixedPoint
  fixed_point p gs h = search (rules, output_is, verdict_is, counted_again)

-- Converting an export text.
pub slice_is_kept : FixedPoint → ExportIsKept
slice_is_kept fixed p gs h1 before after h short h2 = search (rules, written_again, slice_fails)

pub source_is_kept : FixedPoint → ExportIsKeptOfSource
source_is_kept fixed p gs h1 left_old left_new before after h short left h2 = search (rules, written_again, some_text, source_fails)

-- The same of inputs: each without a fault is the text of its games.
module _ (unique : UniqueReading) (rise : TokensRise) where
  spelled_in : (p : Profile) (s : List ℕ) → IsExportable p s → Spells p (tokens_of s) (games_in p s)
  spelled_in p s h = (unique p s _).1 (h.no_fault, refl)

  exportable : (p : Profile) (s : List ℕ) → IsExportable p s → AreExportable p (games_in p s)
  exportable p s h = record { source = s; spelled = spelled_in p s h; room = h.room }

  output_of : (p : Profile) (s : List ℕ) → IsExportable p s → output p s ≡ text_of p (games_in p s)
  output_of p s h = output_is unique rise p s _ (spelled_in p s h)

  verdict_of_games : (p : Profile) (s : List ℕ) → IsExportable p s → verdict p s ≡ totals (counted (games_in p s))
  verdict_of_games p s h = verdict_is unique rise p s _ (spelled_in p s h)

  pub exporting_twice : FixedPoint → ExportingTwice
  exporting_twice fixed p s h = search (rules, exportable, output_of, verdict_of_games)

  pub same_output : SameText → SameOutput
  same_output same p s t h k = search (rules, exportable, output_of)

filter_shortens : (f : Pair → Bool) (ps : List Pair) → length (filter f ps) ≤ length ps
filter_shortens f ps = omega (arith, length-filter f ps, count_by-le-length f ps)

one_set_up : (ps : List Pair) → length (with_set_up ps) ≤ length ps + 1
one_set_up ps = search (rules, filter_shortens, length-insert, set_up, set_up_if, without_set_up)

seven_lines : (m : List ℕ) (ps : List Pair) → length (roster_pairs m ps) ≡ 7
unfolding roster
seven_lines m ps = refl

exported_length : (mode : Mode) (m : List ℕ) (ps : List Pair) → length (exported mode m ps) ≤ length ps + 8
exported_length mode m ps = search (rules, filter_shortens, length-append, one_set_up, seven_lines)

pub few_pairs_have_room : FewPairsHaveRoom
few_pairs_have_room p g few = let lines = exported_length p.mode g.marker g.pairs in omega arith
