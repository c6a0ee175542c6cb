use Rattle.pgn_game.proofs.Words.{◌≡◌, ◌||◌, Bool, true, sym, ap, ◌∙◌, or_right, kind_of, is_comment, is_end, option_map, continued, false, game_at, rules}
use Rattle.pgn_game.proofs.ReaderLemmas.{passes_first, takes_outside_first}
use Rattle.pgn_game.proofs.reader.Reader.accept_between.Goals as goal
use Rattle.pgn_game.proofs.reader.Reader.accept_between.Goals.{then-is_comment-via-then-is_comment, then-is_comment-via-else-is_comment+then-is_end}

pub returns-then-is_comment : goal.returns-then-is_comment
returns-then-is_comment g c =
    let k = kind_of c.args.kind in
    let bare : (is_comment k || is_end k) ≡ true = elim c.then-is_comment.branch [
      | then-is_comment-via-then-is_comment w ↦ ap (λ (b : Bool). b || is_end k) (sym c.is_comment.ensures ∙ w.if-is_comment.true)
      | then-is_comment-via-else-is_comment+then-is_end w ↦ or_right (is_comment k) (is_end k) (sym w.is_end.ensures ∙ w.if-is_end.true)
    ] in search (rules, passes_first)

pub returns : goal.returns
returns g c =
    let k = kind_of c.args.kind in
    let judged = rw c.begin_game.ensures at c.accept_after_tags.ensures in
    record {
      takes = λ w.
          takes_outside_first (game_at false w c.args.self.now) _ c.args.kind (option_map continued c.accept_after_tags.result) c.requires.stage
          (sym c.is_comment.ensures ∙ c.if-is_comment.false) (sym c.is_end.ensures ∙ c.if-is_end.false) (judged.takes w);
      before = judged.before;
    }
