use Rattle.pgn_game.proofs.Words.{refl, sym, ap, ◌∙◌, ExpectedBracket, AfterTags, AfterValue, GameState, false, game_at, is_begun, rules}
use Rattle.pgn_game.proofs.ReaderLemmas.{expected_bracket, close_refusal, close_next, part_stage, puts_right_bracket, to_stage, adds_same, comment_in_pair, refused_in_pair, step_in_pair}
use Rattle.pgn_game.proofs.reader.Reader.accept_right_bracket.Goals as goal

pub returns-then-is_comment : goal.returns-then-is_comment
returns-then-is_comment g c =
    record {
      takes = λ w. comment_in_pair (game_at false w c.args.self.now) _ c.args.kind AfterValue c.requires.stage
          (λ q. refl) refl refl (sym c.if-is_comment.true ∙ c.is_comment.ensures);
      before = ap is_begun c.requires.stage;
    }

pub returns-in_default : goal.returns-in_default
returns-in_default g c =
    record {
      takes = λ w.
          let old = game_at false w c.args.self.now in
          refused_in_pair old _ _ AfterValue c.requires.stage (λ q. refl) ExpectedBracket refl refl (λ part agrees.
          expected_bracket old.profile part c.args.kind (part_stage old part AfterValue agrees c.requires.stage)
          (sym c.if-is_comment.false ∙ c.is_comment.ensures) c.in_default.not-RightBracket);
      before = ap is_begun c.requires.stage;
    }

pub returns-in-RightBracket : goal.returns-in-RightBracket
returns-in-RightBracket g c =
    let v = c.self.view_is in
    record {
      takes = λ w.
          let old = game_at false w c.args.self.now in
          step_in_pair old _ _ AfterValue c.requires.stage (λ q. refl) (to_stage AfterTags)
          (λ o m. puts_right_bracket old _ o m c.requires.stage (ap (λ (r : GameState). record (game_at false w r) { stage = AfterTags }) v))
          (ap (λ (r : GameState). r.most_probes) v) (λ part. search adds_same) (λ part agrees.
          let at = part_stage old part AfterValue agrees c.requires.stage in search (rules, close_refusal, close_next));
      before = refl;
    }
