use Rattle.pgn_c.proofs.Words.{◌≡◌, ap, ◌∙◌, subst, arith, BadGame, FindsSection, game_of}
use Rattle.pgn_sections.specs.declared.bad_game.Ends.{Ends}
use Rattle.pgn_c.specs.declared.next_section.PgnBadGame.{PgnBadGame}
use Rattle.pgn_c.proofs.SectionStructs.{game_kept}
use Rattle.pgn_c.proofs.next_section.read_on.Goals as goal

found : (c : goal.After-section_result) → FindsSection c.args.ends c.args.game.now c.args.piece.now c.args.is_last c.struct_of.result c.section_result.result
found c =
    let bad = c.next_section-found.new.self in
    let ends : bad.ends ≡ c.args.ends = c.next_section-found.ensures.same.ends ∙ ap (λ (g : BadGame). g.ends) c.game_of-bad.ensures in
    let old = c.args.game.now in
    let new : game_of c.args.ends c.struct_of.result ≡ bad =
    ap (λ (g : PgnBadGame). game_of c.args.ends g) c.struct_of.ensures ∙ game_kept c.args.ends old.ends bad ends in
    record {
      found = c.next_section-found.result;
      place = rw new (rw c.game_of-bad.ensures at c.next_section-found.ensures.place);
      above = rw c.game_of-bad.ensures at c.next_section-found.ensures.above;
      answer = c.section_result.ensures;
      same_begin = ap (λ (g : PgnBadGame). g.begin) c.struct_of.ensures ∙ c.next_section-found.ensures.same.begin ∙ ap (λ (g : BadGame). g.begin) c.game_of-bad.ensures;
      same_fault = ap (λ (g : PgnBadGame). g.fault) c.struct_of.ensures ∙ c.next_section-found.ensures.same.fault ∙ ap (λ (g : BadGame). g.fault) c.game_of-bad.ensures;
      same_ends = ap (λ (g : PgnBadGame). g.ends) c.struct_of.ensures;
    }

pub returns : goal.returns
returns c =
    record {
      unknown = λ e. absurd cc;
      too_far = λ ends e far. absurd (omega arith);
      finds = λ ends e fits.
          let same : c.args.ends ≡ ends = cc in
          subst (λ (it : Ends). FindsSection it c.args.game.now c.args.piece.now c.args.is_last c.struct_of.result c.section_result.result) same (found c);
    }
