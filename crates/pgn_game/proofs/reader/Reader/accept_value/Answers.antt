use Rattle.pgn_game.proofs.Words.{IsFalse, Err, Reason, is_outside_the_table, ◌≡◌, ◌≤◌, ◌+◌, false, Some, IsTrue, ℕ, length, Bool, true, nat_lt, refl, sym, ap, ◌∙◌, is_ok, ltb-false, false≢true, escaped, kind_of, TokenKind, ExpectedValue, BadResult, BadFen, TagLineTooLong, AfterName, AfterValue, Part, refusal, next, GameState, Agrees, movetext_after_fen, true_from_ne_false, JudgesInPair, Movetext, Writer, game_at, is_begun, rules}
use Rattle.pgn_game.proofs.pairs.PairsToFirstPosition.{start_told}
use Rattle.pgn_game.proofs.putting.TokenToEvent.{fen_alike}
use Rattle.std.proofs.lemmas.Bool.{le-ltb}
use Rattle.pgn_game.proofs.ReaderLemmas.{value_rows, hit, pass, expected_value, value_refusal, value_next, start_fine, start_faults, part_stage, held_at, begun_name, puts_value, to_value, adds_same, comment_in_pair, refused_in_pair, step_in_pair, tags_fit, text_fits}
use Rattle.pgn_game.proofs.reader.Reader.accept_value.Given.{Over}
use Rattle.pgn_game.proofs.reader.Reader.accept_value.Goals.{After-pending_name-name}
use Rattle.pgn_game.proofs.reader.Reader.accept_value.Goals as goal

-- What a value is rejected for. The name that the reader holds is the part's.
rows : (g : Over) (c : After-pending_name-name g) (w : Writer) (part : Part) → Agrees (game_at false w c.args.self.now) part
    → (c.pending_name-name.result.now ≡ part.name)
    × (refusal c.args.self.now.profile part (kind_of c.args.kind) ≡ value_rows c.pending_name-name.result.now c.in-Str.value.now)
rows g c w part agrees = search (rules, begun_name, held_at, value_refusal, part_stage, value_rows)

refused : (g : Over) (c : After-pending_name-name g) (reason : Reason) → IsFalse (is_outside_the_table reason)
    → value_rows c.pending_name-name.result.now c.in-Str.value.now ≡ Some reason
    → JudgesInPair c.args.self.now (kind_of c.args.kind) c.args.self.now (Err reason)
refused g c reason inside why = record {
  takes = λ w. refused_in_pair (game_at false w c.args.self.now) _ _ AfterName c.requires.stage (λ q. refl) reason refl inside
      (λ part agrees. (rows g c w part agrees).1 ∙ why);
  before = ap is_begun c.requires.stage;
}

too_long : (n : ℕ) (fits : Bool) → fits ≡ false → (n ≤ 249 → IsTrue fits) → nat_lt 249 n ≡ true
too_long n fits out test = true_from_ne_false (nat_lt 249 n) (λ e. false≢true (sym out ∙ test (ltb-false 249 n e)))

pub returns-then-is_comment : goal.returns-then-is_comment
returns-then-is_comment g c =
    record {
      takes = λ w. comment_in_pair (game_at false w c.args.self.now) _ c.args.kind AfterName c.requires.stage
          (λ q. refl) refl refl (sym c.if-is_comment.true ∙ c.is_comment.ensures);
      before = ap is_begun c.requires.stage;
    }

pub returns-in_default : goal.returns-in_default
returns-in_default g c =
    record {
      takes = λ w.
          let old = game_at false w c.args.self.now in
          refused_in_pair old _ _ AfterName c.requires.stage (λ q. refl) ExpectedValue refl refl (λ part agrees.
          expected_value old.profile part c.args.kind (part_stage old part AfterName agrees c.requires.stage)
          (sym c.if-is_comment.false ∙ c.is_comment.ensures) c.in_default.not-Str);
      before = ap is_begun c.requires.stage;
    }

pub returns-then-is_bad_result : goal.returns-then-is_bad_result
returns-then-is_bad_result g c =
    refused g (goal.at.returns-then-is_bad_result g c).After-pending_name-name BadResult refl (hit _ _ _ (sym c.is_bad_result.ensures ∙ c.if-is_bad_result.true))

pub returns-in-Err : goal.returns-in-Err
returns-in-Err g c =
    let fault = start_faults c.pending_name-name.result.now c.in-Str.value.now c.in-Err.field (sym c.fen_position.ensures ∙ c.in-Err.is) in
    refused g (goal.at.returns-in-Err g c).After-pending_name-name (BadFen c.in-Err.field) refl
    (pass _ _ _ (sym c.is_bad_result.ensures ∙ c.if-is_bad_result.false) ∙ hit _ _ _ fault.0 ∙ ap (λ n. Some (BadFen n)) fault.1)

pub returns-then-not-fits_tag_line : goal.returns-then-not-fits_tag_line
returns-then-not-fits_tag_line g c =
    let fine = start_fine c.pending_name-name.result.now c.in-Str.value.now (ap is_ok (sym c.fen_position.ensures ∙ c.in-Ok.is)) in
    let long = too_long (length c.pending_name-name.result.now + length (escaped c.in-Str.value.now)) _ c.if-not-fits_tag_line.true c.fits_tag_line.ensures.1 in
    refused g (goal.at.returns-then-not-fits_tag_line g c).After-pending_name-name TagLineTooLong refl
    (pass _ _ _ (sym c.is_bad_result.ensures ∙ c.if-is_bad_result.false) ∙ pass _ _ _ fine ∙ hit _ _ _ long)

-- The parts of the reader that change.

pub complete-requires : goal.complete-requires
complete-requires g c = search (rules, tags_fit, start_told)

pub begin_at-requires : goal.begin_at-requires
begin_at-requires g c = search text_fits

pub returns : goal.returns
returns g c =
    let v = c.self.view_is in
    let name = c.pending_name-name.result.now in
    let value = c.in-Str.value.now in
    let held = c.complete.new.self in
    let tells = sym c.fen_position.ensures ∙ c.in-Ok.is in
    let fine = start_fine name value (ap is_ok tells) in
    let short = le-ltb 249 (length name + length (escaped value)) (c.fits_tag_line.ensures.0 c.if-not-fits_tag_line.false) in
    record {
      takes = λ w.
          let old = game_at false w c.args.self.now in
          step_in_pair old _ _ AfterName c.requires.stage (λ q. refl) (to_value value)
          (λ o m. puts_value old _ value name c.in-Ok.start held o m c.requires.stage
          (rw (← v) c.complete.ensures) (sym (ap (λ (r : GameState). r.tags.pending_name) v) ∙ c.pending_name-name.ensures) tells
          (rw c.begin_at.ensures
          (ap (λ (r : GameState). game_at false w (record r { stage = AfterValue; tags = held; text = movetext_after_fen c.in-Ok.start r.text })) v
          ∙ ap (λ (t : Movetext). record old { stage = AfterValue; tags = held; text = t }) (fen_alike c.in-Ok.start c.args.self.now.text))))
          (ap (λ (r : GameState). r.most_probes) v) (λ part. search adds_same) (λ part agrees. (
            (rows g (goal.at.returns g c).After-pending_name-name w part agrees).1 ∙ pass _ _ _ (sym c.is_bad_result.ensures ∙ c.if-is_bad_result.false) ∙ pass _ _ _ fine
                ∙ pass _ _ _ short,
            ap (λ (k : TokenKind). next part (kind_of k)) c.in-Str.is ∙ value_next part value (part_stage old part AfterName agrees c.requires.stage),
          ));
      before = refl;
    }

pub pending_name-name-requires : goal.pending_name-name-requires
pending_name-name-requires g c = search (rules, tags_fit)
