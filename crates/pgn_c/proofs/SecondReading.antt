-- A game that is found where a missing Result takes the marker is found again where a missing
-- Result counts as this marker, unless the buffer is full.
use Rattle.pgn_c.proofs.Words.{◌≡◌, ◌⊎◌, inl, inr, ℕ, ◌^◌, ◌≤◌, ◌&&◌, Bool, true, IsTrue, List, [], ◌∷◌, ◌++◌, length, drop, Option, None, Some, refl, sym, ap, subst, ◌∙◌, append-nil, length-append, take_all, arith, bytes_eq-Decides, Token, tokens_of, Marker, Mode, marker_text, Read, read, games_read, PgnGame, AreKnown, ConvertsNext, IsGame, NextOf, profile_counting, profile_taking, text_from, common_steps, shown_begins, Game, IsReadAlike, MissingResults, all_end_with, ReadsNext, in_first_column, marker_number}
use Rattle.pgn_c.proofs.MarkerTaken.{is_fault}
use Rattle.pgn_c.proofs.ReadingGoesOn.{fault_ends, games_stay}
use Rattle.pgn_c.proofs.TextAhead.{length_from}

-- only a game has the status 0
pub game_of : (mode : Mode) (s piece : List ℕ) (found : PgnGame) → NextOf (profile_taking mode) s piece found None None
    → found.status ≡ 0 → IsGame (profile_taking mode) s found None None
game_of mode s piece found (NextOf.game is) ok = is
game_of mode s piece found (NextOf.no_game is) ok = absurd (let e = ap (λ (r : PgnGame). r.status) is.is_result in cc)
game_of mode s piece found (NextOf.rejected is) ok = grind (arith, common_steps, is_fault)
game_of mode s piece found (NextOf.needs_more is) ok = grind (arith, common_steps, is_fault)
game_of mode s piece found (NextOf.full is) ok = absurd (let e = ap (λ (r : PgnGame). r.status) is.is_result in cc)
game_of mode s piece found (NextOf.too_long is) ok = absurd (let e = ap (λ (r : PgnGame). r.status) is.is_result in cc)

length_of : (text : List ℕ) (from : ℕ) → from ≤ length text → length (text_from text from) ≡ length text
length_of text from within = length_from text from (in_first_column text from) within

module _ (law : MissingResults) (mode : Mode) (s : List ℕ) (found : PgnGame) (is : IsGame (profile_taking mode) s found None None) where
  abbrev ts : List Token
  ts = is.tokens ++ is.at ∷ []

  alike : IsReadAlike (profile_taking mode) (marker_text is.marker) ts
  alike =
      let ends : IsTrue (all_end_with (marker_text is.marker) (is.game ∷ [])) =
      ap (λ (b : Bool). b && true) ((bytes_eq-Decides is.game.marker (marker_text is.marker)).1 is.is_marker) in
      law.if_all_end_with_it (profile_taking mode) (marker_text is.marker) ts refl is.passes
      (subst (λ (gs : List Game). IsTrue (all_end_with (marker_text is.marker) gs)) (sym is.one_game) ends)

  -- so the text has a game, if it is not too long
  has_game : games_read (profile_counting mode is.marker) (tokens_of s) ≡ [] → ⊥
  has_game none =
      let all = shown_begins s ts is.shown in
      let passes : (read (profile_counting mode is.marker) ts).fault ≡ None = ap (λ (r : Read). r.fault) (sym alike.same) ∙ is.passes in
      let games : games_read (profile_counting mode is.marker) ts ≡ is.game ∷ [] = ap (λ (r : Read). r.progress.games) (sym alike.same) ∙ is.one_game in
      let more = games_stay (profile_counting mode is.marker) ts all.0 passes in
      absurd (omega (arith, more, ap (length {A = Game}) games, ap (λ (us : List Token). length (games_read (profile_counting mode is.marker) us)) (sym all.1), ap (length {A = Game}) none))

  by_next : (piece : List ℕ) (again : PgnGame) (before after : Option (List ℕ)) → length s ≤ 2 ^ 62
      → NextOf (profile_counting mode is.marker) s piece again before after → (again.status ≡ 0) ⊎ (again.status ≡ 2)
  by_next piece again before after short (NextOf.game to) = inl (ap (λ (r : PgnGame). r.status) to.is_result)
  by_next piece again before after short (NextOf.full to) = inr (ap (λ (r : PgnGame). r.status) to.is_result)
  by_next piece again before after short (NextOf.no_game to) = absurd (has_game to.no_game)
  by_next piece again before after short (NextOf.needs_more to) = absurd (has_game to.no_game)
  by_next piece again before after short (NextOf.rejected to) =
      let known : AreKnown s to.tokens = subst (λ (l : List ℕ). AreKnown l to.tokens) (take_all (2 ^ 62) s short) to.known in
      let all = known [] in
      let tokens : tokens_of s ≡ to.tokens ++ all.0 = ap tokens_of (sym (append-nil s)) ∙ all.1 in
      let ends = fault_ends (profile_counting mode is.marker) to.tokens all.0 to.fault to.rejected in
      absurd (has_game (ap (games_read (profile_counting mode is.marker)) tokens ∙ ap (λ (r : Read). r.progress.games) ends ∙ to.no_game))
  by_next piece again before after short (NextOf.too_long to) = grind (arith, common_steps, length, length-append)

pub converts : (law : MissingResults) (mode : Mode) (taken : Marker) (text : List ℕ) (from : ℕ) (found : PgnGame)
    → ReadsNext (profile_taking mode) text from found → found.status ≡ 0
    → ((marker : Marker) → found.marker ≡ marker_number marker → taken ≡ marker)
    → (before after : List ℕ) (result : PgnGame) → ConvertsNext (profile_counting mode taken) text from before after result
    → from ≤ length text → length text ≤ 2 ^ 62 → (result.status ≡ 0) ⊎ (result.status ≡ 2)
converts law mode taken text from found reads ok is_taken before after result to within short =
    let is = game_of mode (text_from text from) (drop from text) found reads ok in
    let same : taken ≡ is.marker = is_taken is.marker (ap (λ (r : PgnGame). r.marker) is.is_result) in
    let next = subst (λ (m : Marker). NextOf (profile_counting mode m) (text_from text from) (drop from text) to.found (Some []) (Some to.written)) same to.next in
    subst (λ (n : ℕ). (n ≡ 0) ⊎ (n ≡ 2)) (sym (ap (λ (r : PgnGame). r.status) to.is_result))
    (by_next law mode (text_from text from) found is (drop from text) to.found (Some []) (Some to.written)
    (omega (arith, length_of text from within, short)) next)
