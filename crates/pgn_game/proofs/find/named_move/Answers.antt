use Rattle.std.specs.Result.{is_ok}
use Rattle.pgn_game.proofs.Words.{◌≡◌, is_some, Bool, true, false, List, ℕ, ◌+◌, ◌-◌, ◌≤◌, None, Some, sym, ap, subst, ◌∙◌, arith, Option, Result, Ok, Err, option_map, refl, Form, move_of_form, with_next, NoMove, Ambiguous, Move, legal, ok_or, Parts, Played, SanFault, Reason, IllegalMove, MoveLimit, move_of, is_at_limit, found_in, AddsPairs, Costs, form_pairs, CostsForm, CostsAnswer, false≢true, form_of, rules}
use Rattle.pgn_game.proofs.find.named_move.Goals as goal

no_form : (p : Parts) (s : List ℕ) → None ≡ form_of s → move_of p s ≡ None
unfolding move_of
no_form p s e = ap (option_map (move_of_form p)) (sym e)

of_form : (p : Parts) (s : List ℕ) (f : Form) (r : Result Played SanFault)
    → Some f ≡ form_of s → r ≡ move_of_form p f → move_of p s ≡ Some r
unfolding move_of
of_form p s f r e h = ap (option_map (move_of_form p)) (sym e) ∙ ap Some (sym h)

limited : (p : Parts) (played : Played) (b : Bool) → is_at_limit p ≡ b
    → (let r : Result Played Reason = elim b [ true ↦ Err MoveLimit | false ↦ Ok played ] in r) ≡ found_in p (Some (Ok played))
limited p played b e = ap (λ (b : Bool). let r : Result Played Reason = elim b [ true ↦ Err MoveLimit | false ↦ Ok played ] in r) (sym e)

-- a legal move is found, or rejected at the limit
module _ (p : Parts) where
  free : (m : Move) (next : Option Parts) → is_some next ≡ true → is_at_limit p ≡ false
      → ok_or (with_next m next) IllegalMove ≡ found_in p (Some (ok_or (with_next m next) NoMove))
  free m (Some q) legal limit = limited p (record { mv = m; next = q }) false limit
  free m None legal limit = absurd (cc)

  stopped : (m : Move) (next : Option Parts) → is_some next ≡ true → is_at_limit p ≡ true
      → Err MoveLimit ≡ found_in p (Some (ok_or (with_next m next) NoMove))
  stopped m (Some q) legal limit = limited p (record { mv = m; next = q }) true limit
  stopped m None legal limit = absurd (cc)

-- what resolving a form costs
of_answer : (p : Parts) (s : List ℕ) (f : Form) (r : Result Played SanFault) (n : ℕ)
    → Some f ≡ form_of s → r ≡ move_of_form p f → CostsAnswer p f r n → Costs p s n
unfolding Costs
of_answer p s f r n e h costs = search rules

-- and a text that is no form
of_no_form : (p : Parts) (s : List ℕ) (n : ℕ) → None ≡ form_of s → n ≡ 0 → Costs p s n
unfolding Costs
of_no_form p s n e h = subst (λ (x : Option Form). CostsForm p x n) e h

-- what a legal move costs
of_legal : (p : Parts) (f : Form) (m : Move) (next : Option Parts) (n : ℕ) → is_some next ≡ true
    → n ≡ form_pairs p f → CostsAnswer p f (ok_or (with_next m next) NoMove) n
of_legal p f m (Some q) n legal e = e
of_legal p f m None n legal e = absurd (cc)

of_move : (p : Parts) (s : List ℕ) (f : Form) (m : Move) (before after : ℕ) → Some f ≡ form_of s
    → ok_or (with_next m (legal p m)) NoMove ≡ move_of_form p f → is_some (legal p m) ≡ true → after ≡ before + form_pairs p f
    → AddsPairs (Costs p s) before after
of_move p s f m before after e answer legal_move each = search (rules, of_answer, of_legal)

-- and a text with two moves: so many more as the count rose by
of_ambiguous : (p : Parts) (s : List ℕ) (f : Form) (before after : ℕ) → Some f ≡ form_of s
    → Err Ambiguous ≡ move_of_form p f → before + 2 ≤ after → after ≤ before + form_pairs p f
    → AddsPairs (Costs p s) before after
of_ambiguous p s f before after e answer two most = record {
  pairs = after - before;
  added = omega (arith, two);
  costs = of_answer p s f _ _ e answer (omega (arith, two), omega (arith, two, most));
}

pub returns-in_default : goal.returns-in_default
returns-in_default c = search (rules, no_form, of_no_form)

pub returns-in-Err-NoMove : goal.returns-in-Err-NoMove
returns-in-Err-NoMove c =
    let answer = rw c.in-Err-NoMove.field-0-is at c.in-Err-NoMove.ensures.answer in
    record {
      found = ap (found_in c.args.position.now) (sym (of_form c.args.position.now c.args.text.now c.in-Some.form _ c.in-Some.ensures answer));
      legal = tt;
      tried = record {
        pairs = form_pairs c.args.position.now c.in-Some.form;
        added = c.in-Err-NoMove.ensures.pairs.each (λ e. cc);
        costs = of_answer c.args.position.now c.args.text.now c.in-Some.form _ _ c.in-Some.ensures answer refl;
      };
      few = c.in-Err-NoMove.ensures.pairs.bound;
      some = tt;
      candidates = tt;
    }

pub returns-in-Err-Ambiguous : goal.returns-in-Err-Ambiguous
returns-in-Err-Ambiguous c = search (rules, of_form, of_ambiguous)

pub returns-then-is_at_limit : goal.returns-then-is_at_limit
returns-then-is_at_limit c =
    let p = c.args.position.now in
    let f = c.in-Some.form in
    let found = c.in-Ok.ensures in
    record {
      found = stopped p c.in-Ok.mv (legal p c.in-Ok.mv) found.legal (sym c.is_at_limit.ensures ∙ c.if-is_at_limit.true)
          ∙ ap (found_in p) (sym (of_form p c.args.text.now f _ c.in-Some.ensures found.answer));
      legal = tt;
      tried = of_move p c.args.text.now f c.in-Ok.mv _ _ c.in-Some.ensures found.answer found.legal (found.pairs.each (λ e. false≢true (sym (ap is_ok e))));
      few = found.pairs.bound;
      some = tt;
      candidates = tt;
    }

pub returns : goal.returns
returns c =
    let p = c.args.position.now in
    let f = c.in-Some.form in
    let found = c.in-Ok.ensures in
    record {
      found = free p c.in-Ok.mv (legal p c.in-Ok.mv) found.legal (sym c.is_at_limit.ensures ∙ c.if-is_at_limit.false)
          ∙ ap (found_in p) (sym (of_form p c.args.text.now f _ c.in-Some.ensures found.answer));
      legal = found.legal;
      tried = of_move p c.args.text.now f c.in-Ok.mv _ _ c.in-Some.ensures found.answer found.legal (found.pairs.each (λ e. false≢true (sym (ap is_ok e))));
      few = found.pairs.bound;
      some = found.pairs.some;
      candidates = omega (arith, found.candidates, found.pairs.each (λ e. false≢true (sym (ap is_ok e))));
    }
