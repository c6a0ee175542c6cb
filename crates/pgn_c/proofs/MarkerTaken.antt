-- A game that is read by its marker is also read where a missing Result takes the marker.
use Rattle.pgn_game.proofs.stepping.GamesInTurn.{passes_before}
use Rattle.pgn_c.proofs.Words.{◌≡◌, ◌≢◌, ℕ, List, [], ◌∷◌, ◌++◌, length, None, Some, refl, sym, ap, subst, ◌∙◌, append-nil, Token, Marker, Mode, Reason, marker_text, game_text, text_of, Read, read, games_read, PgnGame, IsFilled, ConvertsNext, IsGame, NextOf, HasGameByMarker, game_result, profile_counting, profile_taking, status_for, text_from, arith, common_steps, IsReadAlike, MissingResults, rejects_marker}

-- no other result has status 0
pub is_fault : (status : ℕ) (r : Reason) → status ≢ 0 → status_for status r ≢ 0
is_fault status r is_other = grind (arith, common_steps)

module _ (law : MissingResults) (mode : Mode) (marker : Marker) where
  alike : (ts : List Token) → (read (profile_counting mode marker) ts).fault ≡ None → IsReadAlike (profile_taking mode) (marker_text marker) ts
  alike ts passes = law.alike (profile_taking mode) (marker_text marker) ts refl (ap rejects_marker passes)

  module _ (s before after : List ℕ) (found : PgnGame) (written : List ℕ) (result : PgnGame) (filled : IsFilled before after written)
      (same : result ≡ record found { written = length written }) where
    of_game : IsGame (profile_counting mode marker) s found (Some []) (Some written) → HasGameByMarker mode s before after result
    of_game is =
        let ts : List Token = is.tokens ++ is.at ∷ [] in
        let both = alike ts is.passes in
        let games : games_read (profile_taking mode) ts ≡ is.game ∷ [] = ap (λ (r : Read). r.progress.games) both.same ∙ is.one_game in
        let text : game_text (profile_taking mode) is.game ≡ game_text (profile_counting mode marker) is.game =
        sym (append-nil (game_text (profile_taking mode) is.game)) ∙ ap (text_of (profile_taking mode)) (sym games) ∙ both.written
        ∙ ap (text_of (profile_counting mode marker)) is.one_game ∙ append-nil (game_text (profile_counting mode marker) is.game) in
        let wrote : written ≡ game_text (profile_taking mode) is.game = is.wrote ∙ sym text in
        let end : result.end ≡ found.end = ap (λ (r : PgnGame). r.end) same in
        record {
          tokens = is.tokens;
          at = is.at;
          marker = is.marker;
          game = is.game;
          shown = is.shown;
          none_before = ap (λ (r : Read). r.progress.games) (alike is.tokens (passes_before (profile_counting mode marker) is.tokens (is.at ∷ []) is.passes)).same
              ∙ is.none_before;
          passes = ap (λ (r : Read). r.fault) both.same ∙ is.passes;
          one_game = games;
          is_marker = is.is_marker;
          ends = rw end is.ends;
          filled = subst (IsFilled before after) wrote filled;
          is_result = same ∙ ap (λ (r : PgnGame). record r { written = length written }) is.is_result
              ∙ ap (λ n. record (game_result is.game is.marker is.at.at n) { written = length written }) (sym end)
              ∙ ap (λ (l : List ℕ). record (game_result is.game is.marker is.at.at result.end) { written = length l }) wrote;
        }

    by_next : (piece : List ℕ) → NextOf (profile_counting mode marker) s piece found (Some []) (Some written)
        → found.status ≡ 0 → HasGameByMarker mode s before after result
    by_next piece (NextOf.game is) ok = of_game is
    by_next piece (NextOf.no_game is) ok = absurd (let e = ap (λ (r : PgnGame). r.status) is.is_result in cc)
    by_next piece (NextOf.rejected is) ok = absurd (is_fault 1 is.fault.reason (λ e. cc) (sym (ap (λ (r : PgnGame). r.status) is.is_result) ∙ ok))
    by_next piece (NextOf.needs_more is) ok = grind (arith, common_steps, is_fault)
    by_next piece (NextOf.full is) ok = absurd (let e = ap (λ (r : PgnGame). r.status) is.is_result in cc)
    by_next piece (NextOf.too_long is) ok = absurd (let e = ap (λ (r : PgnGame). r.status) is.is_result in cc)

  pub takes_marker : (text : List ℕ) (from : ℕ) (before after : List ℕ) (result : PgnGame)
      → ConvertsNext (profile_counting mode marker) text from before after result
      → result.status ≡ 0 → HasGameByMarker mode (text_from text from) before after result
  takes_marker text from before after result converts ok =
      by_next (text_from text from) before after converts.found converts.written result converts.filled converts.is_result _ converts.next
      (sym (ap (λ (r : PgnGame). r.status) converts.is_result) ∙ ok)
