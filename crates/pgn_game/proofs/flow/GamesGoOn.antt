-- More tokens finish no fewer games.
use Rattle.pgn_game.proofs.Words.{Token, Game, Profile, Next, going, whole, Progress, progress_with, progress_after, next, read, read_from, ◌≡◌, List, [], ◌∷◌, ◌++◌, length, refl, sym, ap, ◌∙◌, append_assoc, append-nil, length-append, arith, no_progress}
use Rattle.pgn_game.proofs.stepping.OneMoreToken.{by_token, goes_on}

-- the games of one list come first in another
abbrev pub GoOn : List Game → List Game → Type 0
GoOn games now = (more : List Game) × (now ≡ games ++ more)

same : (games : List Game) → GoOn games games
same games = ([], sym (append-nil games))

further : (xs ys zs : List Game) → GoOn xs ys → GoOn ys zs → GoOn xs zs
further xs ys zs (a, is) (b, also) = (a ++ b, also ∙ ap (λ l. l ++ b) is ∙ append_assoc xs a b)

with_next : (games : List Game) (nx : Next) → GoOn games (progress_with games nx).games
with_next games (going part) = same games
with_next games (whole g) = (g ∷ [], refl)

games_from : (p : Profile) (b : Progress) (us : List Token) → GoOn b.games (read_from p b us).progress.games
games_from p b [] = same b.games
games_from p b (t ∷ ts) =
    by_token p b t ts (λ r. GoOn b.games r.progress.games) (λ reason is. same b.games)
    (λ is. further b.games (progress_after b t).games _ (with_next b.games (next b.part t.kind)) (games_from p (progress_after b t) ts))

games_on : (p : Profile) (b : Progress) (ts us : List Token) → GoOn (read_from p b ts).progress.games (read_from p b (ts ++ us)).progress.games
games_on p b [] us = games_from p b us
games_on p b (t ∷ ts) us =
    by_token p b t ts (λ r. GoOn r.progress.games (read_from p b (t ∷ ts ++ us)).progress.games)
    (λ reason is. games_from p b (t ∷ ts ++ us))
    (λ is. rw (goes_on p b t (ts ++ us) is) (games_on p (progress_after b t) ts us))

pub games_grow : (p : Profile) (ts us : List Token) → GoOn (read p ts).progress.games (read p (ts ++ us)).progress.games
games_grow p ts us = games_on p no_progress ts us

-- as many games are the same games
as_many : (xs ys : List Game) → GoOn xs ys → length ys ≡ length xs → ys ≡ xs
as_many xs ys ([], is) many = is ∙ append-nil xs
as_many xs ys (g ∷ more, is) many = absurd (omega (arith, many, ap (length {A = Game}) is, length-append xs (g ∷ more)))

pub same_if_as_many : (p : Profile) (ts us : List Token) → length (read p (ts ++ us)).progress.games ≡ length (read p ts).progress.games
    → (read p (ts ++ us)).progress.games ≡ (read p ts).progress.games
same_if_as_many p ts us many = as_many _ _ (games_grow p ts us) many
