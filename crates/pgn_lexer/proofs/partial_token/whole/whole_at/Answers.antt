use Rattle.pgn_lexer.proofs.Words.{◌≡◌, ◌<◌, ◌==◌, ℕ, List, false, false≢true, length, refl, sym, ap, ◌∙◌, Begins, rules}
use Rattle.pgn_lexer.proofs.stepping.WholeRuns.{where_some, whole_begun, whole_string, whole_alone, text_unpassed, alone_unpassed, string_begun}
use Rattle.pgn_lexer.proofs.partial_token.whole.whole_at.Goals as goal

some : (xs : List ℕ) → false ≡ (length xs == 0) → 0 < length xs
some xs e = search (rules, false≢true)

pub returns-in-Text-Symbol : goal.returns-in-Text-Symbol
returns-in-Text-Symbol c = record {
  whole = where_some _ (λ r is. whole_begun _ _ _ _ _ (sym c.begins_outside.ensures ∙ c.in-Text-Symbol.is ∙ ap Begins.Text c.in-Text-Symbol.field-0-is) is) c.whole_text.ensures;
  not_passed = λ unpassed. where_some _ (λ r is. text_unpassed _ _ _ _ _ is unpassed) c.whole_text.ensures;
}

pub returns-in-Text : goal.returns-in-Text
returns-in-Text c = record {
  whole = where_some _ (λ r is. whole_begun _ _ _ _ _ (sym c.begins_outside.ensures ∙ c.in-Text.is) is) c.whole_text-in-Text.ensures;
  not_passed = λ unpassed. where_some _ (λ r is. text_unpassed _ _ _ _ _ is unpassed) c.whole_text-in-Text.ensures;
}

pub returns-else-piece-end-ne34 : goal.returns-else-piece-end-ne34
returns-else-piece-end-ne34 c = search (rules, whole_string, string_begun)

pub returns-in-Alone : goal.returns-in-Alone
returns-in-Alone c =
    let begins = sym c.begins_outside.ensures ∙ c.in-Alone.is in
    record {
      whole = rw c.kind.ensures (whole_alone _ _ _ (some _ c.if-is_empty.ensures) begins);
      not_passed = λ unpassed. rw c.kind.ensures (alone_unpassed _ _ _ _ refl begins unpassed.no_period);
    }
