-- Games read in turn from a source.
use Rattle.pgn_game.proofs.Words.{Token, Profile, Game, no_part, ◌≡◌, ℕ, true, List, [], ◌∷◌, ◌++◌, length, Option, None, Some, ap, append-nil, length-append, arith, Consumes-nil, Games, games_of, HaveRead, NoGame, text_of_games as text_of, Progress, read, written_so_far as written, Converter, rules}
use Rattle.pgn_game.proofs.stepping.OneMoreToken.{read-passes, read-refuses, stops_from, torn-none, gains_none}
use Rattle.pgn_game.proofs.stepping.StepsAtEnd.{let_go}

-- ---- the text of a game

pub none_or_some : {A : Type 0} {o : Option A} (x : A) → o ≡ Some x → o ≡ None → ⊥
none_or_some x a b = cc

pub passes_before : (p : Profile) (ts us : List Token) → (read p (ts ++ us)).fault ≡ None → (read p ts).fault ≡ None
passes_before p ts us passes = search (rules, none_or_some, stops_from)

-- between games all that is due is the text of games
pub due_between : (p : Profile) (b : Progress) → b.part ≡ no_part → written p b ≡ text_of p b.games
due_between p b none = cc (none, torn-none p.missing_result p.mode, append-nil (text_of p b.games))

pub not_one_more : {gs : List Game} (g : Game) → gs ≡ gs ++ g ∷ [] → ⊥
not_one_more {gs} g e = absurd (omega (arith, ap (length {A = Game}) e, length-append gs (g ∷ [])))

-- the token that finishes a game leaves no part of one
pub none_behind : (p : Profile) (ts : List Token) (t : Token) (g : Game) → (read p (ts ++ t ∷ [])).fault ≡ None
    → (read p (ts ++ t ∷ [])).progress.games ≡ (read p ts).progress.games ++ g ∷ [] → (read p (ts ++ t ∷ [])).progress.part ≡ no_part
none_behind p ts t g passes one = search (rules, passes_before, not_one_more, none_or_some, read-refuses, read-passes)

-- ---- one call

pub at_end_again : (p : Profile) (u : List ℕ) (given : List Token) (left : Option (List ℕ))
    (now : Games) (new : Converter) (o : Option (List ℕ)) → HaveRead p left u now given
    → now.converter.is_finished ≡ true → new ≡ record now.converter { just_finished = None }
    → NoGame p u given left left (games_of new now.unused) o o
at_end_again p u given left now new o h1 h2 h3 = grind (arith, Consumes-nil, append-nil, gains_none, let_go)

-- the last of a list
pub last_is : {A : Type 0} → (xs ys : List A) {x y : A} → xs ++ x ∷ [] ≡ ys ++ y ∷ [] → x ≡ y
last_is [] [] e = cc
last_is [] (z ∷ zs) {y} e = absurd (omega (arith, ap length e, length-append zs (y ∷ [])))
last_is (z ∷ zs) [] {x} e = absurd (omega (arith, ap length e, length-append zs (x ∷ [])))
last_is (z ∷ zs) (w ∷ ws) e = last_is zs ws (cc)
