use Rattle.pgn_game.proofs.Words.{Annotates, Close, Movetext, GameState, game_by, subst, ◌≡◌, ℕ, ◌==◌, length, refl, sym, ap, ◌∙◌, ne_eqb, UnmatchedClose, depth, levels_of_part, right_paren}
use Rattle.pgn_game.proofs.ReaderLemmas.{text_fits, hit, pass, depth_is}
use Rattle.pgn_game.proofs.putting.TokenToEvent.{entry_refuses, none_tried}
use Rattle.pgn_game.proofs.reader.Reader.close_variation.Goals as goal

pub returns-then-depth-eq0 : goal.returns-then-depth-eq0
returns-then-depth-eq0 g c =
    let old = c.args.self.now in
    entry_refuses old right_paren UnmatchedClose refl refl (λ w part is.
    hit _ _ _ (ap (λ (n : ℕ). n == 0)
    (sym (depth_is (game_by w old) part is) ∙ sym (ap (λ (r : GameState). length r.text.levels.around) c.self.view_is)
    ∙ sym c.depth.ensures.value ∙ c.if-depth-eq0.true)))
    (λ part. refl)

pub returns : goal.returns
returns g c =
    let old = c.args.self.now in
    let deep : c.depth.result ≡ length old.text.levels.around =
    c.depth.ensures.value ∙ ap (λ (r : GameState). length r.text.levels.around) c.self.view_is in
    record {
      no_marker = refl;
      says = λ w part is. (
        pass _ _ _ (ne_eqb (depth (levels_of_part part)) 0 (λ e. c.if-depth-eq0.false (deep ∙ depth_is (game_by w old) part is ∙ e))),
        refl,
      );
      finds = λ w part is. refl;
      after = ap (λ (r : GameState). record r { text = c.close.new.self }) c.self.view_is ∙ none_tried old c.close.new.self;
      text = subst (λ (t : Movetext). Annotates Close t c.close.new.self) (ap (λ (r : GameState). r.text) c.self.view_is) c.close.ensures;
      fits = tt;
    }

pub depth-requires : goal.depth-requires
depth-requires g c = search text_fits
