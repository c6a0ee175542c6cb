use Rattle.pgn_game.proofs.Words.{◌≡◌, ap, sym, ◌∙◌, Stage, GameState, game_by, is_begun, may_have_movetext}
use Rattle.pgn_game.proofs.ReaderLemmas.{entry_in_movetext, enters}
use Rattle.pgn_game.proofs.putting.TokenToEvent.{before_outside, pair_outside}
use Rattle.pgn_game.proofs.reader.Reader.accept_outside.Goals as goal

-- the stage that was met is the reader's
stage_is : (old held : GameState) (stage : Stage) → held ≡ old → held.stage ≡ stage → old.stage ≡ stage
stage_is old held stage same at = ap (λ (r : GameState). r.stage) (sym same) ∙ at

pub returns-in-InMovetext : goal.returns-in-InMovetext
returns-in-InMovetext g c = record {
  takes = λ w.
      let old = game_by w c.args.self.now in
      let at = stage_is _ _ _ c.self.view_is c.in-InMovetext.is in
      enters old c.args.kind (ap may_have_movetext at) (λ part agrees. entry_in_movetext old c.args.kind part at agrees);
  outside = tt;
}

pub returns-in-AfterLeftBracket : goal.returns-in-AfterLeftBracket
returns-in-AfterLeftBracket g c = pair_outside (ap is_begun (stage_is _ _ _ c.self.view_is c.in-AfterLeftBracket.is)) c.accept_name.ensures

pub returns-in-AfterName : goal.returns-in-AfterName
returns-in-AfterName g c = pair_outside (ap is_begun (stage_is _ _ _ c.self.view_is c.in-AfterName.is)) c.accept_value.ensures

pub returns-in-AfterValue : goal.returns-in-AfterValue
returns-in-AfterValue g c = pair_outside (ap is_begun (stage_is _ _ _ c.self.view_is c.in-AfterValue.is)) c.accept_right_bracket.ensures

pub returns-in-AfterTags : goal.returns-in-AfterTags
returns-in-AfterTags g c = before_outside (ap is_begun (stage_is _ _ _ c.self.view_is c.in-AfterTags.is)) c.accept_after_tags.ensures

pub returns-in-Between : goal.returns-in-Between
returns-in-Between g c = before_outside (ap is_begun (stage_is _ _ _ c.self.view_is c.in-Between.is)) c.accept_between.ensures
