-- Reading with a missing Result that takes the marker, and with one that counts as the marker by
-- which each game ends.
-- Letters: q is the profile whose missing Result takes the marker, b the progress, t a token, ts
-- are tokens.
use Rattle.pgn_game.proofs.Words.{Token, Profile, takes_the_marker, Game, ◌≡◌, ℕ, List, [], ◌∷◌, ◌++◌, Option, None, IsTrue, refl, sym, ◌∙◌, list_all-append, bytes_eq-Decides, counting, refusal, marker_of, Next, next, Progress, progress_with, progress_after, read_from, and_parts, all_end_with, arith, common_steps, rules}
use Rattle.pgn_game.proofs.stepping.OneMoreToken.{by_token, first_passes, goes_on}
use Rattle.pgn_game.proofs.twice.MarkerCounts.{marker_finishes, refusal_counting}

-- the games so far are among those of all tokens
ends_so_far : (text : List ℕ) (games : List Game) (to : Next)
    → IsTrue (all_end_with text (progress_with games to).games) → IsTrue (all_end_with text games)
ends_so_far text games to all = search (rules, and_parts, list_all-append)

end_before : (p : Profile) (text : List ℕ) (b : Progress) (ts : List Token)
    → IsTrue (all_end_with text (read_from p b ts).progress.games) → IsTrue (all_end_with text b.games)
end_before p text b [] all = all
end_before p text b (t ∷ ts) all =
    by_token p b t ts (λ r. IsTrue (all_end_with text r.progress.games) → IsTrue (all_end_with text b.games)) (λ reason is also. also)
    (λ is also. ends_so_far text b.games (next b.part t.kind) (end_before p text (progress_after b t) ts also)) all

-- so the marker of a game just finished is the text
marker_is : (text : List ℕ) (games : List Game) (g : Game) → IsTrue (all_end_with text (games ++ g ∷ [])) → g.marker ≡ text
marker_is text games g all = grind (arith, common_steps, and_parts, list_all-append, bytes_eq-Decides)

pub reads_as_one_marker : (q : Profile) (text : List ℕ) (b : Progress) (ts : List Token) → q.missing_result ≡ takes_the_marker
    → (read_from q b ts).fault ≡ None → IsTrue (all_end_with text (read_from q b ts).progress.games)
    → read_from q b ts ≡ read_from (counting q text) b ts
reads_as_one_marker q text b [] takes passes all = refl
reads_as_one_marker q text b (t ∷ ts) takes passes all =
    let free = first_passes q b t ts passes in
    let here = goes_on q b t ts free in
    let later = rw here at all in
    let same = by_marker (marker_of t.kind) refl free (end_before q text (progress_after b t) ts later) in
    here ∙ reads_as_one_marker q text (progress_after b t) ts takes (rw here at passes) later ∙ sym (goes_on (counting q text) b t ts (same ∙ free))
  where
    by_marker : (o : Option (List ℕ)) → marker_of t.kind ≡ o → refusal q b.part t.kind ≡ None
        → IsTrue (all_end_with text (progress_after b t).games) → refusal (counting q text) b.part t.kind ≡ refusal q b.part t.kind
    by_marker o is free ends = search (rules, refusal_counting, marker_finishes, marker_is)
