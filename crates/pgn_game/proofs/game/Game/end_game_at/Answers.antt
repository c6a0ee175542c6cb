use Rattle.pgn_game.proofs.Words.{◌≡◌, ◌∙◌, false, Some, sym, refl, inr, le_refl, marker_text, rules}
use Rattle.pgn_game.specs.steps.GameState.{expected_of, is_unexpected}
use Rattle.pgn_game.proofs.ReaderLemmas.{reader_fits}
use Rattle.pgn_game.proofs.putting.SilentReader.{silence_kept}
use Rattle.pgn_game.proofs.putting.TokenAtPlace.{marker_placed}
use Rattle.pgn_game.proofs.reader.ErrorReturned.{error_returned}
use Rattle.pgn_game.proofs.game.Game.end_game_at.Goals as goal

some_same : {A : Type 0} {x y : A} → Some x ≡ Some y → x ≡ y
some_same e = cc

pub returns-then-is_unexpected : goal.returns-then-is_unexpected
returns-then-is_unexpected g c =
    record {
      takes = λ k is.
          inr (record {
            text = marker_text c.args.marker;
            is = is;
            unexpected = search (rules, le_refl);
          });
      silent = silence_kept _ _ _ refl;
    }

pub returns-in_err-end_game : goal.returns-in_err-end_game
returns-in_err-end_game g c =
    let expected : is_unexpected (expected_of c.args.self.now) (marker_text c.args.marker) c.args.at ≡ false = sym c.is_unexpected.ensures ∙ c.if-is_unexpected.false in
    rw (error_returned _ c.from_residual.ensures.1) (record {
      takes = search (rules, some_same);
      silent = c.in_err-end_game.ensures.silent;
    })

pub place_marker-requires : goal.place_marker-requires
place_marker-requires g c = search reader_fits

pub returns : goal.returns
returns g c =
    let ends = rw (← c.self.view_is) at c.in_ok-end_game.ensures in
    rw c.place_marker.ensures (record {
      takes = λ k is.
          record {
            takes = (marker_placed c.args.self.now c.args.marker _ c.args.at _ ends.takes).takes k is;
            place = refl;
            text = marker_text c.args.marker;
            is = is;
            expected = sym c.is_unexpected.ensures ∙ c.if-is_unexpected.false;
          };
      silent = record { silent = ends.silent.silent; untouched = ends.silent.untouched };
    })
