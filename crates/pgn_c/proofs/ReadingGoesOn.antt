-- Reading the first tokens of a list, and all of them.
-- Letters: p is the profile, b the progress, xs and ys are tokens.
use Rattle.pgn_c.proofs.Words.{◌≡◌, ◌≤◌, List, [], ◌∷◌, ◌++◌, length, Option, None, Some, refl, length-append, arith, Token, Reason, Fault, Profile, Read, read, games_read, refusal, common_steps, Game, Next, Progress, no_progress, progress_with, progress_after, read_from}

-- what is read where the first token has this row of the fault table
abbrev after_row : Profile → Progress → Token → List Token → Option Reason → Read
after_row p b x xs (Some reason) = record { progress = b; fault = Some (record { at = x.at; reason = reason }) }
after_row p b x xs None = read_from p (progress_after b x) xs

row_is : (p : Profile) (b : Progress) (x : Token) (xs : List Token) → read_from p b (x ∷ xs) ≡ after_row p b x xs (refusal p b.part x.kind)
row_is p b x xs = cc

-- what is read of all tokens after what was read of the first
abbrev then_read : Profile → Read → List Token → Read
then_read p r ys = elim r.fault [ Some f ↦ r | None ↦ read_from p r.progress ys ]

in_two : (p : Profile) (b : Progress) (xs ys : List Token) → read_from p b (xs ++ ys) ≡ then_read p (read_from p b xs) ys
in_two p b [] ys = refl
in_two p b (x ∷ xs) ys = grind (arith, common_steps, row_is, (in_two p (progress_after b x) xs ys))

-- no game is lost
games_with : (games : List Game) (to : Next) → length games ≤ length (progress_with games to).games
games_with games to = grind (arith, common_steps, length-append)

none_lost : (p : Profile) (b : Progress) (ys : List Token) → length b.games ≤ length (read_from p b ys).progress.games
none_lost p b [] = omega arith
none_lost p b (y ∷ ys) = grind (arith, common_steps, length, row_is, games_with, (none_lost p (progress_after b y) ys))

-- The first tokens are not rejected if all of them are not.
-- If they are rejected, nothing is read behind the fault.
pub fault_ends : (p : Profile) (xs ys : List Token) (f : Fault) → (read p xs).fault ≡ Some f → read p (xs ++ ys) ≡ read p xs
fault_ends p xs ys f is = let e = in_two p no_progress xs ys in cc

-- If they are not, their games are among those of all.
pub games_stay : (p : Profile) (xs ys : List Token) → (read p xs).fault ≡ None
    → length (games_read p xs) ≤ length (games_read p (xs ++ ys))
games_stay p xs ys passes = grind (arith, common_steps, in_two, length, none_lost)
