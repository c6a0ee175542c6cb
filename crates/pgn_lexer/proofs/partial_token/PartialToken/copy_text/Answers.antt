use Rattle.pgn_lexer.proofs.Words.{◌<◌, [], ◌∷◌, ◌++◌, get_or, length, refl, sym, ap, ◌∙◌, arith, AfterBackslash, LexMode, longest_of, string_class}
use Rattle.pgn_lexer.proofs.stepping.ByteInString.{before_one_more}
use Rattle.pgn_lexer.proofs.stepping.CopiedBytes.{copied_on, escape_at}
use Rattle.pgn_lexer.proofs.stepping.PieceByByte.{ran_uses, takes_more, grown_fits, takes_backslash, takes_escaped, longest_fits}
use Rattle.pgn_lexer.proofs.partial_token.PartialToken.copy_text.Goals as goal

pub loop-used-preserved-then-is_in : goal.loop-used-preserved-then-is_in
loop-used-preserved-then-is_in c =
    let here = c.loop-used.invariant in
    let short : length c.loop-used.self-inside.buffer.items < longest_of c.in-Text.text = omega (arith, here.copied.room) in
    record {
      copied = copied_on _ _ here.copied (omega arith) (omega arith) (omega arith);
      room = rw c.push.ensures.items (grown_fits _ _ here.inside _ _ here.room short);
      inside = here.inside;
      ran = λ old ran. ran_uses _ old _ _ _ _ (omega (arith, here.copied.whole)) refl (here.ran old ran) _
          (takes_more _ _ _ _ _ here.inside (rw c.bytes.ensures at (sym c.is_in.ensures ∙ c.if-is_in.true)) short (rw c.push.ensures.items refl));
    }

pub loop-used-preserved : goal.loop-used-preserved
loop-used-preserved c =
    let here = c.loop-used.invariant in
    let short : length c.loop-used.self-inside.buffer.items < longest_of c.in-Text.text = omega (arith, here.copied.room) in
    let begins = c.has_escape.ensures c.if-not-has_escape.false in
    let escape = escape_at _ _ _ _ (omega arith) here.copied.whole begins in
    let fits = longest_fits c.in-Text.text in
    let string = here.inside ∙ ap LexMode.Text begins.string in
    record {
      copied = copied_on _ _ here.copied (omega arith) (omega (arith, escape.within)) (omega arith);
      room = rw c.push-in-loop-used.ensures.items (grown_fits _ _ here.inside _ _ here.room short);
      inside = here.inside;
      ran = λ old ran. ran_uses _ old _ _ _ _ (omega (arith, escape.within, here.copied.whole)) refl
          (ran_uses _ old _ _ _ _ (omega (arith, here.copied.whole)) refl (here.ran old ran)
          (record { mode = AfterBackslash; at = c.loop-used.self-inside.at; text = c.loop-used.self-inside.buffer.items ++ get_or c.args.piece.now c.loop-used.used 0 ∷ [] })
          (takes_backslash _ _ _ _ string (ap string_class escape.backslash) (omega (arith, short, fits)) refl)) _
          (takes_escaped _ _ _ _ refl escape.escaped (rw (before_one_more c.loop-used.self-inside.buffer.items (get_or c.args.piece.now c.loop-used.used 0), c.push-in-loop-used.ensures.items, string) refl));
    }
