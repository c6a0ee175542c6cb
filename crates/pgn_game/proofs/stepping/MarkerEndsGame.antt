-- The token that finishes a game is its marker, which is the Result of its tag section.
use Rattle.pgn_game.proofs.Words.{Kind, Token, Reason, Stage, AfterLeftBracket, AfterName, AfterValue, Profile, value_of, Game, Part, ◌≡◌, ℕ, false, List, [], ◌∷◌, ◌++◌, Option, None, Some, refl, codes, unwrap_or, IsTrue, IsFalse, not-false, bytes_eq-Decides, refusal, marker_of, is_comment, result_for, text_refusal, Next, going, whole, next, next_in, in_text, at_stage, progress_with, read, games_read, FinishesGame, EndsByMarker, GamesEndByMarker, rules, subst}
use Rattle.pgn_game.proofs.exporting.PairsExportedAgain.{result_of}
use Rattle.pgn_game.proofs.pairs.ExportedValues.{exported_known}
use Rattle.pgn_game.proofs.refusals.RefusalsByStage.{is_textual, is_lexical, after_tags, between, rest_passed, test_failed, text_row}
use Rattle.pgn_game.proofs.refusals.RefusalsInMovetext.{marker_refusal, same_at_zero}
use Rattle.pgn_game.proofs.stepping.GamesInTurn.{due_between, last_is, none_behind, none_or_some, not_one_more, passes_before}
use Rattle.pgn_game.proofs.stepping.OneMoreToken.{read-passes, read-refuses}

-- ---- Where a game is finished

-- what a token leads to where no game is finished, or the marker of the game
abbrev Leads : Kind → Part → Next → Type 0
Leads k part (going to) = Unit {0}
Leads k part (whole g) = (marker_of k ≡ Some g.marker) × (g.pairs ≡ part.pairs)

text_leads : (part : Part) (k : Kind) → Leads k part (in_text part k)
text_leads part k = search rules

leads_in : (stage : Stage) (part : Part) (k : Kind) → Leads k part (next_in stage part k)
leads_in stage part k = search (rules, text_leads)

none_in_name : (part : Part) (k : Kind) (g : Game) → next_in AfterLeftBracket part k ≡ whole g → ⊥
none_in_name part k g e = search rules

none_in_value : (part : Part) (k : Kind) (g : Game) → next_in AfterName part k ≡ whole g → ⊥
none_in_value part k g e = search rules

none_behind_value : (part : Part) (k : Kind) (g : Game) → next_in AfterValue part k ≡ whole g → ⊥
none_behind_value part k g e = search rules

-- ---- What the table asks of a marker

-- a marker is no comment, and neither a bracket, the end nor an error
record IsPlain (k : Kind) : Type 0 where
  textual : IsTrue (is_textual k)
  bare : IsFalse (is_comment k)
  sound : is_lexical k ≡ false

plain : (k : Kind) (marker : List ℕ) → marker_of k ≡ Some marker → IsPlain k
plain k marker is = search rules

passes_in_text : (p : Profile) (stage : Stage) (part : Part) (k : Kind) (g : Game) → IsPlain k
    → refusal p (at_stage stage part) k ≡ None → next_in stage part k ≡ whole g → text_refusal p part k ≡ None
passes_in_text p stage part k g is free leads =
    search (rules, text_row, between, none_in_name, none_in_value, none_behind_value, rest_passed, after_tags)

same_result : (p : Profile) (part : Part) (k : Kind) (marker : List ℕ) → marker_of k ≡ Some marker → text_refusal p part k ≡ None
    → marker ≡ unwrap_or (value_of part.pairs (codes "Result")) (result_for p.missing_result marker)
same_result p part k marker is free = search (rules, marker_refusal, same_at_zero, test_failed, rest_passed, bytes_eq-Decides, not-false)

-- ---- A game that was read

module _ (p : Profile) (given : List Token) (marker : Token) (finishes : FinishesGame p given marker) where
  abbrev part : Part
  part = (read p given).progress.part

  before : (read p given).fault ≡ None
  before = passes_before p given (marker ∷ []) finishes.passes

  of_game : (g : Game) → refusal p part marker.kind ≡ None → next part marker.kind ≡ whole g → g ≡ finishes.game
      → EndsByMarker p given marker finishes.game
  of_game g free leads same =
      let led : Leads marker.kind part (whole g) = subst (Leads marker.kind part) leads (leads_in part.stage part marker.kind) in
      let kind : marker_of marker.kind ≡ Some finishes.game.marker = rw same at led.0 in
      let text_free = passes_in_text p part.stage part marker.kind g (plain marker.kind g.marker led.0) free leads in
      let result = same_result p part marker.kind finishes.game.marker kind text_free in
      let known = result_for p.missing_result finishes.game.marker in search (rules, exported_known, result_of, due_between, none_behind)

  by_next : (nx : Next) → refusal p part marker.kind ≡ None → next part marker.kind ≡ nx
      → (read p (given ++ marker ∷ [])).progress ≡ progress_with (games_read p given) nx → EndsByMarker p given marker finishes.game
  by_next nx free leads after = search (rules, not_one_more, of_game, last_is)

  by_test : (o : Option Reason) → refusal p part marker.kind ≡ o → EndsByMarker p given marker finishes.game
  by_test o is = search (rules, none_or_some, read-refuses, before, by_next, read-passes)

pub games_end_by_marker : GamesEndByMarker
games_end_by_marker p given marker finishes = by_test p given marker finishes (refusal p (read p given).progress.part marker.kind) refl
