use Rattle.pgn_game.proofs.Words.{IsOpen, Part, GameState, Writer, game_by, ◌≡◌, Bool, true, false, length, refl, sym, ap, ◌∙◌, arith, codes, le-leb, Between, value_of, marker_text, depth, levels_of_part, result_for, Marker, rules}
use Rattle.pgn_game.proofs.ReaderLemmas.{tags_fit, text_fits, no_name, depth_is, marker_inside, marker_differs, marker_free, none_around, test_of, differs}
use Rattle.pgn_game.proofs.reader.Reader.end_game.Given.{Over}
use Rattle.pgn_game.proofs.reader.Reader.end_game.Goals.{After-ne}
use Rattle.pgn_game.proofs.reader.Reader.end_game.Goals as goal

-- What the reader's calls say before a game ends: it is at depth 0, and whether its Result differs.
record Tested (old : GameState) (marker : Marker) (other : Bool) : Type 0 where
  none : length old.text.levels.around ≡ 0
  result : (w : Writer) (part : Part) → IsOpen (game_by w old) part → differs (result_for old.profile.missing_result (marker_text marker))
      (value_of part.pairs (codes "Result")) (marker_text marker) ≡ other

tested : (g : Over) (c : After-ne g) (other : Bool) → c.ne.result ≡ other → Tested c.args.self.now c.args.marker other
tested g c other test = search (rules, test_of)

pub returns-then-depth-gt0 : goal.returns-then-depth-gt0
returns-then-depth-gt0 g c =
    let old = c.args.self.now in
    record {
      inside = refl;
      why = λ w k part is op. marker_inside old k (marker_text c.args.marker) part is (le-leb 1 (depth (levels_of_part part))
          (omega (
            arith,
            c.if-depth-gt0.true,
            c.depth.ensures.value,
            depth_is (game_by w old) part op,
            ap (λ (r : GameState). length r.text.levels.around) c.self.view_is,
          )));
      same = refl;
    }

pub returns-then-ne : goal.returns-then-ne
returns-then-ne g c =
    let old = c.args.self.now in
    let t = tested g (goal.at.returns-then-ne g c).After-ne true c.if-ne.true in
    record {
      inside = refl;
      why = λ w k part is op.
          marker_differs old k _ (marker_text c.args.marker) part is (sym (depth_is (game_by w old) part op) ∙ t.none) refl (t.result w part op);
      same = refl;
    }

pub returns : goal.returns
returns g c =
    let old = c.args.self.now in
    let t = tested g (goal.at.returns g c).After-ne false c.if-ne.false in
    record {
      free = λ w k part is op.
          marker_free old k _ (marker_text c.args.marker) part is (sym (depth_is (game_by w old) part op) ∙ t.none) refl (t.result w part op);
      outside = none_around old.text.levels.around t.none;
      after = ap (λ (r : GameState). record r { stage = Between; marker = marker_text c.args.marker }) c.self.view_is;
    }

pub depth-requires : goal.depth-requires
depth-requires g c = search text_fits

pub value-requires : goal.value-requires
value-requires g c = (search tags_fit, no_name g.row.T _ _ c.self.view_is c.requires c.self.invariant.0)
