use Rattle.pgn_game.proofs.Words.{arith, refl, ◌≡◌, ◌<◌, ◌≤◌, length, ◌∷◌, [], List, ℕ, subst, ◌∙◌, device, is_black_to_move, number_before, IsToken, text_of_move, PutsTokens, rules}
use Rattle.pgn_game.proofs.putting.ItemToMovetext.{puts_after, puts_fail, is_text, is_token, writes_move}
use Rattle.pgn_game.proofs.putting.NumberToTokens.{puts_token}
use Rattle.pgn_game.proofs.writer.Writer.put_move.Goals as goal

pub returns-in_err-put_number-clause-puts : goal.returns-in_err-put_number-clause-puts
returns-in_err-put_number-clause-puts g c =
    let p = c.args.before.now in
    let m = c.args.mv.now in
    let text = is_text p p m c.write_san_of-san.result.items c.write_san_of-san.ensures.text refl in
    puts_fail (number_before c.args.self.now.is_after_move (is_black_to_move p) p.full) (text_of_move p m ∷ [])
    c.args.self.now.line c.put_number.new.self.line c.put_number.new.self.line _ c.from_residual.result _
    (is_token p m c.write_san_of-san.result.items text c.write_san_of-san.ensures.some c.write_san_of-san.ensures.short)
    c.in_err-put_number.ensures.puts c.from_residual.ensures.0

of_san : (s t : List ℕ) → s ≡ t → 0 < length t → length t ≤ 7 → IsToken s
of_san s t e some short = rw e (record { not_empty = some; fits = omega (arith, short) })

pub put-requires : goal.put-requires
put-requires g c = of_san c.as_slice.result.now _ c.as_slice.ensures.value c.write_san_of-san.ensures.some c.write_san_of-san.ensures.short

pub returns-clause-puts : goal.returns-clause-puts
returns-clause-puts g c =
    let p = c.args.before.now in
    let m = c.args.mv.now in
    let number = c.in_ok-put_number.ensures.puts in
    let text = is_text p p m c.write_san_of-san.result.items c.write_san_of-san.ensures.text refl in
    let put : PutsTokens (c.as_slice.result.now ∷ []) c.put_number.new.self.line c.put.new.self c.put.result
    (device g.W.Sink.taken g.W.Sink.failures c.put_number.new.out c.put.new.out) = search (rules, puts_token, of_san) in
    puts_after (number_before c.args.self.now.is_after_move (is_black_to_move p) p.full)
    (text_of_move p m ∷ []) c.args.self.now.line c.put_number.new.self.line c.put.new.self _ c.put.result _ _ _ _ _ _ number
    (subst (λ (t : List ℕ). PutsTokens (t ∷ []) c.put_number.new.self.line c.put.new.self c.put.result
    (device g.W.Sink.taken g.W.Sink.failures c.put_number.new.out c.put.new.out))
    (c.as_slice.ensures.value ∙ text) put)

pub returns-in_err-put_number-clause-tried : goal.returns-in_err-put_number-clause-tried
returns-in_err-put_number-clause-tried g c =
    writes_move _ c.args.before.now c.args.mv.now _ _ _ refl c.requires.legal c.write_san_of-san.ensures.pairs

pub returns-clause-tried : goal.returns-clause-tried
returns-clause-tried g c = writes_move _ c.args.before.now c.args.mv.now _ _ _ refl c.requires.legal c.write_san_of-san.ensures.pairs
