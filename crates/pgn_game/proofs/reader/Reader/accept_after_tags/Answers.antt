use Rattle.pgn_game.proofs.Words.{nat_le, or_else, None, ◌≡◌, length, true, false, refl, sym, ap, ◌∙◌, arith, le-leb, lt-leb, false≢true, kind_of, TokenKind, SetUpWithoutFen, TooManyTags, UnexpectedEnd, AfterLeftBracket, AfterTags, Part, refusal, next, GameState, Agrees, may_have_movetext, Writer, [], game_at, is_begun, rules}
use Rattle.pgn_game.specs.declared.mode.Written.TheVariants.{Nothing}
use Rattle.pgn_game.proofs.ReaderLemmas.{tags_fit, hit, pass, textual, end_after_tags, open_refusal, open_next, refuses_set_up, entry_after_tags, lacks_of, part_stage, held_at, puts_left_bracket, to_stage, adds_same, counting_none, enters, refused_after, takes_step}
use Rattle.pgn_game.proofs.reader.Reader.accept_after_tags.Given.{Over}
use Rattle.pgn_game.proofs.reader.Reader.accept_after_tags.Goals.{In-LeftBracket}
use Rattle.pgn_game.proofs.reader.Reader.accept_after_tags.Goals as goal

-- what a `[` is rejected for, by the pairs that the reader holds
opens : (g : Over) (c : In-LeftBracket g) (w : Writer) (held : GameState) → held ≡ c.args.self.now → (part : Part)
    → Agrees (game_at false w c.args.self.now) part
    → refusal c.args.self.now.profile part (kind_of c.args.kind) ≡ or_else (nat_le held.profile.tags (length held.tags.held)) TooManyTags None
opens g c w held same part agrees = search (rules, open_refusal, part_stage, held_at)

pub returns-in-End : goal.returns-in-End
returns-in-End g c = record {
  takes = λ w o m.
      let old = game_at false w c.args.self.now in
      refused_after old old (Agrees old) _ UnexpectedEnd 0 o m (counting_none old) refl (λ part agrees.
      ap (λ (k : TokenKind). refusal old.profile part (kind_of k)) c.in-End.is
      ∙ end_after_tags old.profile part (part_stage old part AfterTags agrees c.requires))
      (λ part agrees. rw c.in-End.is refl) (λ part agrees. refl);
  before = ap is_begun c.requires;
}

pub returns-then-is_full : goal.returns-then-is_full
returns-then-is_full g c =
    let full = le-leb g.row.T (length c.self.inside.tags.held) (omega (arith, c.if-is_full.ensures.full.0 refl)) in
    record {
      takes = λ w o m.
          let old = game_at false w c.args.self.now in
          refused_after old old (Agrees old) _ TooManyTags 0 o m (counting_none old) refl
          (λ part agrees. opens g (goal.at.returns-then-is_full g c).In-LeftBracket w _ c.self.view_is part agrees ∙ hit _ _ _ full)
          (λ part agrees. rw c.in-LeftBracket.is refl) (λ part agrees. refl);
      before = ap is_begun c.requires;
    }

pub returns-else-is_full : goal.returns-else-is_full
returns-else-is_full g c =
    let v = c.self.view_is in
    let differ : length c.self.inside.tags.held ≡ g.row.T → ⊥ = λ e. false≢true (c.if-is_full.ensures.full.1 e) in
    let room = lt-leb g.row.T (length c.self.inside.tags.held) (omega (arith, differ, c.if-is_full.ensures.room)) in
    record {
      takes = λ w o m.
          let old = game_at false w c.args.self.now in
          takes_step old _ _ (to_stage AfterLeftBracket) o m
          (puts_left_bracket old _ o m c.requires (ap (λ (r : GameState). record (game_at false w r) { stage = AfterLeftBracket }) v))
          (ap (λ (r : GameState). r.most_probes) v) (λ part agrees. (
            opens g (goal.at.returns-else-is_full g c).In-LeftBracket w _ v part agrees ∙ pass _ _ _ room,
            ap (λ (k : TokenKind). next part (kind_of k)) c.in-LeftBracket.is ∙ open_next part (part_stage old part AfterTags agrees c.requires),
          ))
          (λ part agrees. rw c.in-LeftBracket.is refl) (λ part. search adds_same);
      before = refl;
    }

pub returns-then-lacks_fen : goal.returns-then-lacks_fen
returns-then-lacks_fen g c = record {
  takes = λ w o m.
      let old = game_at false w c.args.self.now in
      let counts = c.count_move.ensures w in
      refused_after old (game_at false w c.count_move.new.self) (Agrees old) _ SetUpWithoutFen counts.pairs o m counts.counted refl (λ part agrees.
      refuses_set_up old.profile part c.args.kind (part_stage old part AfterTags agrees c.requires)
      (textual c.args.kind c.in_default.not-LeftBracket c.in_default.not-End)
      (lacks_of old part true agrees c.requires (sym c.lacks_fen.ensures ∙ c.if-lacks_fen.true))) counts.tried
      (λ part agrees. refl);
  before =
      ap (λ (r : GameState). is_begun r.stage) (c.count_move.ensures (record {
        line = [];
        written = Nothing;
        announced = None;
        is_after_move = false;
      })).counted
      ∙ ap is_begun c.requires;
}

pub returns-else-lacks_fen : goal.returns-else-lacks_fen
returns-else-lacks_fen g c =
    let is = textual c.args.kind c.in_default.not-LeftBracket c.in_default.not-End in
    record {
      takes = λ w.
          let old = game_at false w c.args.self.now in
          enters old c.args.kind (ap may_have_movetext c.requires) (λ part agrees.
          entry_after_tags old c.args.kind part c.requires is
          (lacks_of old part false agrees c.requires (sym c.lacks_fen.ensures ∙ c.if-lacks_fen.false)) agrees);
      before = ap is_begun c.requires;
    }

pub is_full-requires : goal.is_full-requires
is_full-requires g c = (search tags_fit, rw (ap (λ (r : GameState). r.stage) c.self.view_is ∙ c.requires) at c.self.invariant.0)
