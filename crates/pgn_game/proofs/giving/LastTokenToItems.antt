-- One token behind the last piece, and what is given for it.
use Rattle.pgn_lexer.specs.PartialToken.{refusal as refusal_token}
use Rattle.pgn_lexer.specs.Scanned.{token}
use Rattle.pgn_lexer.specs.Stands.{Finishes}
use Rattle.pgn_game.proofs.Words.{◌≡◌, ℕ, ◌≤◌, Bool, true, false, List, [], ◌∷◌, ◌++◌, length, Option, None, Some, Result, Ok, Err, refl, sym, ap, subst, ◌∙◌, arith, append-nil, length-append, false≢true, Token, Stage, Between, Reason, Lexical, LexFault, Profile, Part, no_part, Progress, read, refusal, HasLeft, Standing, fault, HasRead, IsSound, HoldsPairs, Accepted, FinishesAtMarker, is_end, due, rules}
use Rattle.pgn_game.specs.export.Text.{text_of}
use Rattle.pgn_game.specs.declared.item.Item.{Item as CodeItem}
use Rattle.pgn_game.specs.public.Given.{Given, given_of}
use Rattle.pgn_game.specs.public.ItemsCalls.{Current, given_as, given_next}
use Rattle.pgn_game.specs.steps.ItemsSteps.{AfterToken, ReadsLastToken, TakesItem, games_added, reads_as}
use Rattle.pgn_game.proofs.giving.TokenToItems.{after_item, free, rejected, rejected_text}
use Rattle.pgn_game.proofs.stepping.OneMoreToken.{read-passes, torn-none}
use Rattle.pgn_game.proofs.stepping.StepsAtEnd.{Left, Nearer, end_at, is_the_end, left_by, marker_or_end, nearer_by, tokens_left}

-- nothing is given where what was given stays
longer : (xs : List Given) (y : Given) (ys : List Given) → xs ≡ xs ++ y ∷ ys → ⊥
longer xs y ys is = absurd (omega (arith, ap (length {A = Given}) is, length-append xs (y ∷ ys)))

-- The end was taken: nothing has changed.
module _ (p : Profile) (old_lexer : Standing) (old new : Current) (given : List Token) (t : Token) (has_read : HasRead p (reads_as old_lexer old) given)
    (is : is_end t.kind ≡ true) (passes : refusal p (read p given).progress.part t.kind ≡ None) where
  abbrev b : Progress
  b = (read p given).progress

  between : b.part.stage ≡ Between
  between = end_at p b.part.stage b.part.pairs b.part.name b.part.items (rw (is_the_end t.kind is) at passes)

  none_begun : b.part ≡ no_part
  none_begun = subst (λ (s : Stage). HoldsPairs s old.reading.tags b.part) (has_read.agrees.stage ∙ between) has_read.agrees.pairs

  end_is : (read p (given ++ t ∷ [])).progress ≡ record { games = b.games; part = no_part }
  end_is = search (rules, read-passes, is_the_end, none_begun)

  pub same_given : given_of (read p (given ++ t ∷ [])).progress ≡ given_of b
  same_given = ap given_of end_is ∙ ap (λ (part : Part). given_of (record { games = b.games; part = part })) (sym none_begun)

  pub due_at_end : due p (given ++ t ∷ []) ≡ text_of p (read p (given ++ t ∷ [])).progress.games
  due_at_end = search (rules, end_is, torn-none, append-nil)

module _ (old_lexer lexer : Standing) (old new : Current) (sound : IsSound old_lexer old.reading old.games false false None) where
  module _ (t : Token) (gives : Finishes old_lexer lexer (token t)) (e : Bool) (is : e ≡ is_end t.kind) where
    near : Nearer e old_lexer lexer
    near = subst (λ (x : Bool). Nearer x old_lexer lexer) (sym is) (nearer_by t.kind old_lexer lexer t gives.count gives.closes)

    left_is : (u : List ℕ) (given : List Token) → HasLeft old_lexer u given → Left u given e lexer t
    left_is u given left = subst (λ (x : Bool). Left u given x lexer t) (sym is) (left_by u given t.kind lexer t (gives.left u given left))

    few_games : (answer : Result Accepted Reason) → games_added answer ≤ 1
    few_games answer = search rules

    none_ended : is_end t.kind ≡ true → (answer : Result Accepted Reason) → FinishesAtMarker t.kind new.reading answer → games_added answer ≡ 0
    none_ended at_end answer finishes = search (rules, false≢true, marker_or_end)

    pub reads_last : (item : Option CodeItem) → TakesItem old t.kind new (Ok item) → ReadsLastToken old_lexer old lexer new e (Ok item)
    reads_last item takes = by e is near left_is
      where
        by : (e : Bool) → e ≡ is_end t.kind → Nearer e old_lexer lexer → ((u : List ℕ) (given : List Token) → HasLeft old_lexer u given → Left u given e lexer t)
            → ReadsLastToken old_lexer old lexer new e (Ok item)
        by false is near left_is = search (rules, after_item, few_games, between, false≢true)
        by true is near left_is = record {
          after = λ p u given left has_read.
              let whole = left_is u given left in
              let after = after_item p old_lexer lexer old new given t has_read item takes in
              let passes = free p old_lexer lexer old new given t has_read item takes in search (rules, ended);
          count = gives.count;
          last = takes.last;
          sound = search (rules, near, none_ended, false≢true, between);
          nearer = λ is. absurd (false≢true (sym is));
        }
          where
            ended : (p : Profile) (given : List Token) → HasRead p (reads_as old_lexer old) given → refusal p (read p given).progress.part t.kind ≡ None
                → (o : Option CodeItem) → AfterToken p given (given ++ t ∷ []) lexer new o
                → (o ≡ None) × AfterToken p given (given ++ t ∷ []) lexer new None × (due p (given ++ t ∷ []) ≡ text_of p (read p (given ++ t ∷ [])).progress.games)
            ended p given has_read passes None after = (refl, after, due_at_end p old_lexer old new given t has_read (sym is) passes)
            ended p given has_read passes (Some i) after =
                absurd (longer _ (given_as new i) (given_next new) (sym (same_given p old_lexer old new given t has_read (sym is) passes) ∙ after.0.gives))

    pub reads_last_refused : (reason : Reason) → TakesItem old t.kind new (Err reason)
        → ReadsLastToken old_lexer old lexer new e (Err (record { at = t.at; reason = reason }))
    reads_last_refused reason takes = record {
      after = λ p u given left has_read.
          let rest = tokens_left u given e lexer t (left_is u given left) in search (rules, rejected);
      count = gives.count;
      last = takes.last;
      sound = tt;
      nearer = tt;
    }

  pub reads_last_fault : (f : LexFault) → Finishes old_lexer lexer (fault f) → (old.last ≡ None) × (old.pending ≡ None)
      → ReadsLastToken old_lexer old lexer old false (Err (record { at = f.at; reason = Lexical f.reason }))
  reads_last_fault f gives last_none = record {
    after = λ p u given left has_read. (refusal_token f, [], gives.left u given left, rejected_text p given old f has_read.passes);
    count = gives.count;
    last = last_none;
    sound = tt;
    nearer = tt;
  }
