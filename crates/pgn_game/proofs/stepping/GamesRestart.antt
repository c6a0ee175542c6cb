-- A text that is converted from the end of a game on.
use Rattle.pgn_lexer.specs.WhiteSpace.{white_space}
use Rattle.pgn_game.proofs.Words.{Kind, Token, Profile, Game, no_part, ◌≡◌, ℕ, ◌+◌, false, List, [], ◌∷◌, ◌++◌, length, Some, refl, sym, ap, ◌∙◌, append_assoc, append-nil, length-append, map, sum, tokens_of, plies_of, marker_of, games_read, counting_also, GamesRestart, sum-map, sum_by-append, TextsRestart, CanBeMarker, game_text, text_of_games as text_of, Next, next, Progress, progress_with, progress_after, no_progress, Read, read_from, read, written_so_far as written, verdict_of, rules, Part, arith, torn}
use Rattle.pgn_game.proofs.stepping.OneMoreToken.{by_token, goes_on, read_from-test, after_test}
use Rattle.pgn_game.proofs.stepping.GamesInTurn.{none_behind}
use Rattle.pgn_game.proofs.stepping.MarkerEndsGame.{games_end_by_marker}
use Rattle.pgn_game.proofs.stepping.NoneBeforeFault.{reads_behind}

-- ---- Games before what is read

abbrev with_front : List Game → Progress → Progress
with_front games b = record { games = games ++ b.games; part = b.part }

abbrev reads_with_front : List Game → Read → Read
reads_with_front games r = record { progress = with_front games r.progress; fault = r.fault }

front_of_next : (games : List Game) (b : List Game) (nx : Next) → progress_with (games ++ b) nx ≡ with_front games (progress_with b nx)
front_of_next games b nx = search (rules, append_assoc)

front_stays : (p : Profile) (games : List Game) (b : Progress) (ts : List Token)
    → read_from p (with_front games b) ts ≡ reads_with_front games (read_from p b ts)
front_stays p games b [] = refl
front_stays p games b (t ∷ ts) =
    by_token p b t ts (λ r. read_from p (with_front games b) (t ∷ ts) ≡ reads_with_front games r)
    (λ reason is. read_from-test p (with_front games b) t ts ∙ ap (after_test p (with_front games b) t ts) is)
    (λ is. goes_on p (with_front games b) t ts is ∙ ap (λ c. read_from p c ts) (front_of_next games b.games (next b.part t.kind))
    ∙ front_stays p games (progress_after b t) ts)

text_of-append : (p : Profile) (games more : List Game) → text_of p (games ++ more) ≡ text_of p games ++ text_of p more
text_of-append p [] more = refl
text_of-append p (g ∷ games) more = rw (text_of-append p games more) (sym (append_assoc (game_text p g) (text_of p games) (text_of p more)))

written_with_front : (p : Profile) (games : List Game) (b : Progress) → written p (with_front games b) ≡ text_of p games ++ written p b
written_with_front p games b = rw (text_of-append p games b.games) (append_assoc (text_of p games) (text_of p b.games) (torn p b.part))

plies_of_both : (xs ys : List Game) → sum (map plies_of (xs ++ ys)) ≡ sum (map plies_of xs) + sum (map plies_of ys)
plies_of_both xs ys = omega (arith, sum-map plies_of (xs ++ ys), sum_by-append plies_of xs ys, sum-map plies_of xs, sum-map plies_of ys)

verdict_with_front : (games : List Game) (r : Read) → verdict_of (reads_with_front games r) ≡ counting_also games (verdict_of r)
verdict_with_front games r = search (rules, length-append, plies_of_both)

-- ---- A marker

can_be : (k : Kind) (marker : List ℕ) → marker_of k ≡ Some marker → CanBeMarker k
can_be k marker is = search rules

pub games_restart : TextsRestart → GamesRestart
games_restart restart p u s given rest marker cut ends finishes =
    let ts : List Token = given ++ marker ∷ [] in
    let gs : List Game = games_read p ts in
    let later : List ℕ = white_space (length u) false ++ s in
    let kind : CanBeMarker marker.kind = can_be marker.kind finishes.game.marker (games_end_by_marker p given marker finishes).is_marker in
    let progress : (read p ts).progress ≡ record { games = gs; part = no_part } =
    ap (λ (part : Part). record { games = gs; part = part })
    (none_behind p given marker finishes.game finishes.passes finishes.one_more) in
    let same : rest ≡ tokens_of later = restart u s given rest marker cut ends kind in
    let joined : read p (tokens_of (u ++ s)) ≡ reads_with_front gs (read p (tokens_of later)) =
    ap (read p) (cut ∙ sym (append_assoc given (marker ∷ []) rest)) ∙ reads_behind p no_progress ts rest finishes.passes
    ∙ ap (λ (c : Progress). read_from p c rest) (progress ∙ ap (λ (l : List Game). record { games = l; part = no_part }) (sym (append-nil gs)))
    ∙ front_stays p gs no_progress rest ∙ ap (λ (us : List Token). reads_with_front gs (read p us)) same in
    search (rules, written_with_front, verdict_with_front)
