use Rattle.pgn_game.proofs.Words.{IsFalse, Reason, Err, is_outside_the_table, ◌≡◌, has_pair, Part, Agrees, not, length, is_some, Some, refl, sym, ap, ◌∙◌, kind_of, TokenKind, ExpectedName, BadTagName, DuplicateTag, TagLineTooLong, ReducedFen, AfterLeftBracket, AfterName, next, refusal, GameState, JudgesInPair, Writer, false, game_at, is_begun, rules}
use Rattle.std.proofs.lemmas.Bool.{lt-ltb, le-ltb}
use Rattle.pgn_game.proofs.ReaderLemmas.{name_rows, hit, pass, expected_name, name_refusal, name_next, part_stage, held_at, puts_name, to_name, adds_same, comment_in_pair, refused_in_pair, step_in_pair, tags_fit}
use Rattle.pgn_game.proofs.reader.Reader.accept_name.Given.{Over}
use Rattle.pgn_game.proofs.reader.Reader.accept_name.Goals.{In-Symbol}
use Rattle.pgn_game.proofs.reader.Reader.accept_name.Goals as goal

-- What a name is rejected for, by the mode and the pairs that the reader holds.
rows : (g : Over) (c : In-Symbol g) (w : Writer) (held : GameState) → held ≡ c.args.self.now → (part : Part) → Agrees (game_at false w c.args.self.now) part
    → refusal c.args.self.now.profile part (kind_of c.args.kind) ≡ name_rows held.profile held.tags.held c.in-Symbol.name.now
rows g c w held same part agrees = search (rules, name_refusal, part_stage, name_rows, held_at)

refused : (g : Over) (c : In-Symbol g) (held : GameState) (reason : Reason) → held ≡ c.args.self.now → IsFalse (is_outside_the_table reason)
    → name_rows held.profile held.tags.held c.in-Symbol.name.now ≡ Some reason
    → JudgesInPair c.args.self.now (kind_of c.args.kind) c.args.self.now (Err reason)
refused g c held reason same inside why = record {
  takes = λ w. refused_in_pair (game_at false w c.args.self.now) _ _ AfterLeftBracket c.requires.stage (λ q. refl) reason refl inside
      (λ part agrees. rows g c w held same part agrees ∙ why);
  before = ap is_begun c.requires.stage;
}

pub returns-then-is_comment : goal.returns-then-is_comment
returns-then-is_comment g c =
    record {
      takes = λ w. comment_in_pair (game_at false w c.args.self.now) _ c.args.kind AfterLeftBracket c.requires.stage
          (λ q. refl) refl refl (sym c.if-is_comment.true ∙ c.is_comment.ensures);
      before = ap is_begun c.requires.stage;
    }

pub returns-in_default : goal.returns-in_default
returns-in_default g c =
    record {
      takes = λ w.
          let old = game_at false w c.args.self.now in
          refused_in_pair old _ _ AfterLeftBracket c.requires.stage (λ q. refl) ExpectedName refl refl (λ part agrees.
          expected_name old.profile part c.args.kind (part_stage old part AfterLeftBracket agrees c.requires.stage)
          (sym c.if-is_comment.false ∙ c.is_comment.ensures) c.in_default.not-Symbol);
      before = ap is_begun c.requires.stage;
    }

pub returns-then-not-is_tag_name : goal.returns-then-not-is_tag_name
returns-then-not-is_tag_name g c =
    refused g (goal.at.returns-then-not-is_tag_name g c).In-Symbol _ BadTagName refl refl
    (hit _ _ _ (ap not (sym c.is_tag_name.ensures ∙ c.if-not-is_tag_name.true)))

pub returns-in-Ok : goal.returns-in-Ok
returns-in-Ok g c =
    refused g (goal.at.returns-in-Ok g c).In-Symbol _ DuplicateTag c.self.view_is refl
    (pass _ _ _ (ap not (sym c.is_tag_name.ensures ∙ c.if-not-is_tag_name.false)) ∙ hit _ _ _ (ap is_some c.in-Ok.ensures.value))

pub returns-then-name-gt-NAME_OR_VALUE_LENGTH : goal.returns-then-name-gt-NAME_OR_VALUE_LENGTH
returns-then-name-gt-NAME_OR_VALUE_LENGTH g c =
    refused g (goal.at.returns-then-name-gt-NAME_OR_VALUE_LENGTH g c).In-Symbol _ TagLineTooLong c.self.view_is refl
    (pass _ _ _ (ap not (sym c.is_tag_name.ensures ∙ c.if-not-is_tag_name.false)) ∙ pass _ _ _ c.in-Err.ensures.new
    ∙ hit _ _ _ (lt-ltb 249 (length c.in-Symbol.name.now) c.if-name-gt-NAME_OR_VALUE_LENGTH.true))

pub returns-then-is_reduced_fen : goal.returns-then-is_reduced_fen
returns-then-is_reduced_fen g c =
    refused g (goal.at.returns-then-is_reduced_fen g c).In-Symbol _ ReducedFen c.self.view_is refl
    (pass _ _ _ (ap not (sym c.is_tag_name.ensures ∙ c.if-not-is_tag_name.false)) ∙ pass _ _ _ c.in-Err.ensures.new
    ∙ pass _ _ _ (le-ltb 249 (length c.in-Symbol.name.now) c.if-name-gt-NAME_OR_VALUE_LENGTH.false)
    ∙ hit _ _ _ (sym c.is_reduced_fen.ensures ∙ c.if-is_reduced_fen.true))

pub begin-requires : goal.begin-requires
begin-requires g c = search (rules, tags_fit)

pub returns : goal.returns
returns g c =
    let v = c.self.view_is in
    let name = c.in-Symbol.name.now in
    let held = c.begin.new.self in
    record {
      takes = λ w.
          let old = game_at false w c.args.self.now in
          step_in_pair old _ _ AfterLeftBracket c.requires.stage (λ q. refl) (to_name name)
          (λ o m. puts_name old _ name held o m c.requires.stage
          (ap (λ (r : GameState). has_pair r.tags.held name) (sym v) ∙ c.in-Err.ensures.new)
          (c.begin.ensures ∙ ap (λ (r : GameState). record r.tags { pending_name = Some name }) v)
          (ap (λ (r : GameState). record (game_at false w r) { stage = AfterName; tags = held }) v))
          (ap (λ (r : GameState). r.most_probes) v) (λ part. search adds_same) (λ part agrees. (
            rows g (goal.at.returns g c).In-Symbol w _ v part agrees
                ∙ pass _ _ _ (ap not (sym c.is_tag_name.ensures ∙ c.if-not-is_tag_name.false)) ∙ pass _ _ _ c.in-Err.ensures.new
                ∙ pass _ _ _ (le-ltb 249 (length name) c.if-name-gt-NAME_OR_VALUE_LENGTH.false)
                ∙ pass _ _ _ (sym c.is_reduced_fen.ensures ∙ c.if-is_reduced_fen.false),
            ap (λ (k : TokenKind). next part (kind_of k)) c.in-Symbol.is
                ∙ name_next part name (part_stage old part AfterLeftBracket agrees c.requires.stage),
          ));
      before = refl;
    }

pub find-requires : goal.find-requires
find-requires g c = (search tags_fit, (rw (ap (λ (r : GameState). r.stage) c.self.view_is ∙ c.requires.stage) at c.self.invariant.0).0)
