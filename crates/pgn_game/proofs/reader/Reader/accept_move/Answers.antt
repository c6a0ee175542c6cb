use Rattle.pgn_game.proofs.Words.{Movetext, Plays, GameState, ap, marker_of, or_parts, refl, subst, ◌∙◌, rules}
use Rattle.pgn_game.proofs.ReaderLemmas.{text_fits}
use Rattle.pgn_game.proofs.putting.TokenToEvent.{move_means, move_refuses}
use Rattle.pgn_game.proofs.reader.Reader.accept_move.Goals as goal

pub returns-in-Err : goal.returns-in-Err
returns-in-Err g c =
    let plain = or_parts _ _ c.requires.is_move in
    move_refuses c.args.self.now c.find.new.self c.args.text.now _ c.requires.may.stage plain.1 plain.0 (rw (plain.0, marker_of) refl)
    c.in-Err.reason c.in-Err.ensures

pub play-requires : goal.play-requires
play-requires g c = search (rules, text_fits)

pub returns-in-Ok : goal.returns-in-Ok
returns-in-Ok g c =
    let plain = or_parts _ _ c.requires.is_move in
    let finds = c.in-Ok.ensures in
    let text = ap (λ (r : GameState). r.text) (c.self.view_is ∙ finds.counted) in
    move_means c.args.self.now c.find.new.self c.args.text.now _ c.requires.may.stage plain.1 plain.0 (rw (plain.0, marker_of) refl) _ c.in-Ok.mv finds
    (ap (λ (r : GameState). record r { text = c.play.new.self }) c.self.view_is)
    (subst (λ (t : Movetext). Plays c.in-Ok.mv t c.play.new.self) text c.play.ensures)
