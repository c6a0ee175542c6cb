-- Games listed one by one.
use Rattle.pgn_tool.proofs.Words.{◌≡◌, ℕ, ◌+◌, ◌^◌, ◌≤◌, false, List, [], ◌∷◌, ◌++◌, length, Option, None, Some, IfSome, refl, sym, ap, subst, ◌∙◌, append-nil, append_assoc, length-append, arith, Appends, Consumes, IsAtEnd, Appends-trans, Consumes-trans, AppendsFront, Token, tokens_of, InputTooLong, Fault, Game, Read, no_progress, read, HasRead, CountsDevices, Games, HaveRead, within, at_end, NextGame, NoGame, NextStops, ReadsNoGame, IsListed, ListsNoMore, ListStops, game_line, line_just_finished, lines_from, lines_of, list_profile, too_long, unread, Decides, ListedSoFar, Refused, Unwritten, Consumes-whole, Stops, games_before, AreNext, common_steps, AreShown, IsRefused, within_limit, GameState, rules}
use Rattle.pgn_layout.proofs.OneWriteMore.{front_after}
use Rattle.pgn_game.proofs.stepping.BytesWithinLimit.{decides_by, shown_begins, shown_by}
use Rattle.pgn_game.proofs.stepping.OneMoreToken.{stops_from}

-- ---- lines

lines_two : (n : ℕ) (gs hs : List Game) → lines_from n (gs ++ hs) ≡ lines_from n gs ++ lines_from (n + length gs) hs
lines_two n [] hs = ap (λ k. lines_from k hs) (omega arith)
lines_two n (g ∷ gs) hs =
    ap (λ l. game_line n g ++ l) (lines_two (n + 1) gs hs ∙ ap (λ k. lines_from (n + 1) gs ++ lines_from k hs) (omega arith))
    ∙ sym (append_assoc (game_line n g) (lines_from (n + 1) gs) (lines_from (n + length (g ∷ gs)) hs))

-- ---- what was read

pub has_read_of : (left : Option (List ℕ)) (u : List ℕ) (games : Games) (given : List Token)
    → HaveRead list_profile left u games given → HasRead list_profile games.converter given
has_read_of left u games given h = grind (arith, common_steps)

-- the source has ended
pub decides_at_end : (o n : Option (List ℕ)) (u : List ℕ) → Consumes o n u → IsAtEnd n → length u ≤ 2 ^ 62 → Decides o n (tokens_of u)
decides_at_end o n u consumed end short =
    Decides.at_end u consumed short (Consumes-whole o n u (λ s. s ≡ u) consumed end refl) ([], sym (append-nil (tokens_of u)))

-- those read are decided
decides_read : (o n : Option (List ℕ)) (u : List ℕ) (games : Games) (given : List Token) → Consumes o n u
    → (games.converter.is_finished ≡ false → AreNext (within_limit u) given) → HaveRead list_profile n u games given → Decides o n given
decides_read o n u games given consumed next (within on) = decides_by o n u given consumed (next on.not_finished)
decides_read o n u games given consumed next (at_end all) = subst (Decides o n) (sym all.whole) (decides_at_end o n u consumed all.at_end all.short)

-- ---- the whole text of a source

-- Where a token of ts is rejected, the text of the source reads as ts, as its bytes before place
-- 2^62 show: what follows of that holds of it, if it is known.
abbrev pub ReadAs : Option (List ℕ) → List Token → Type 1
ReadAs left ts =
    (f : Fault) → (read list_profile ts).fault ≡ Some f
    → (P : List ℕ → Type 0) → ((s : List ℕ) → IsRefused list_profile s f → read list_profile (tokens_of s) ≡ read list_profile ts → P s) → IfSome left P

-- the bytes so far decide these tokens
pub reads_at_token : (o n : Option (List ℕ)) (u : List ℕ) (ts : List Token) → Consumes o n u → AreNext (within_limit u) ts → ReadAs o ts
reads_at_token None n u ts consumed next f fault P follows = tt
reads_at_token (Some s) None u ts consumed next f fault P follows = absurd consumed
reads_at_token (Some s) (Some left) u ts consumed next f fault P follows =
    let shown = shown_by s u left ts consumed next in
    let (rest, begins) = shown_begins s ts shown in
    follows s (record { tokens = ts; shown = shown; fault = fault })
    (ap (read list_profile) begins ∙ stops_from list_profile no_progress ts rest fault)

-- the source has ended
pub reads_at_end : (o n : Option (List ℕ)) (u : List ℕ) → Consumes o n u → IsAtEnd n → length u ≤ 2 ^ 62 → ReadAs o (tokens_of u)
reads_at_end o n u consumed end short f fault P follows =
    Consumes-whole o n u P consumed end
    (follows u (record { tokens = tokens_of u; shown = AreShown.at_end short [] (sym (append-nil (tokens_of u))); fault = fault }) refl)

-- ---- a call

module _ (left_old left left_new : Option (List ℕ)) (old new : Games) (a b : Option (List ℕ)) (so : ListedSoFar left_old left old a b) where
  all : (more : List ℕ) → Consumes left left_new more → Consumes left_old left_new (so.bytes ++ more)
  all more consumed = Consumes-trans left_old left left_new so.bytes more so.consumed consumed

  -- a game is just finished, and its line comes next
  module _ (game : NextGame list_profile so.bytes so.tokens left left_new new None None) where
    has : HasRead list_profile new.converter game.tokens
    has = has_read_of left_new (so.bytes ++ game.more) new game.tokens game.have_read

    next_line : lines_of game.tokens ≡ lines_of so.tokens ++ line_just_finished new.converter
    next_line =
        let games = (read list_profile so.tokens).progress.games in
        let number : new.converter.games ≡ 1 + length games =
        has.games ∙ ap (length {A = Game}) game.one_game ∙ length-append games (game.game ∷ []) ∙ omega arith in
        let line : line_just_finished new.converter ≡ game_line (1 + length games) game.game = rw (game.just_finished, number, has.profile) in
        ap (lines_from 1) game.one_game ∙ lines_two 1 games (game.game ∷ [])
        ∙ ap (λ l. lines_of so.tokens ++ l) (append-nil (game_line (1 + length games) game.game) ∙ sym line)

    pub game_listed : (c : Option (List ℕ)) → Appends b c (line_just_finished new.converter) → ListedSoFar left_old left_new new a c
    game_listed c wrote =
        record {
          bytes = so.bytes ++ game.more;
          tokens = game.tokens;
          consumed = all game.more game.consumed;
          have_read = game.have_read;
          written = subst (Appends a c) (sym next_line) (Appends-trans a b c _ _ so.written wrote);
        }

    -- the line could not be written
    pub game_cut : (c : Option (List ℕ)) → AppendsFront b c (line_just_finished new.converter) → ListStops left_old left_new a c Unwritten
    game_cut c wrote =
        let (count, short, front) = subst (AppendsFront a c) (sym next_line) (front_after a b c _ _ so.written wrote) in
        ListStops.unwritten game.tokens
        (decides_read left_old left_new (so.bytes ++ game.more) new game.tokens (all game.more game.consumed) game.next game.have_read)
        (record { count = count; short = short; front = front })

  -- no game is left
  pub all_listed : NoGame list_profile so.bytes so.tokens left left_new new None None
      → IfSome left_old (λ s. (length s ≤ 2 ^ 62) × IsListed s None a b)
  all_listed end = search (rules, length)

  no_more : (u : List ℕ) → ReadsNoGame list_profile so.tokens u None None → ListsNoMore u a b
  no_more u none = grind (arith, common_steps, read, list_profile, lines_of, lines_from)

  pub list_stops : (r : GameState) (f : Fault) (s t : ℕ)
      → NextStops list_profile so.bytes so.tokens left left_new r None None f → CountsDevices f.reason s t 0 0
      → ListStops left_old left_new a b (Refused f)
  list_stops r f s t stopped counted = by_stop stopped counted
    where
      by_stops : {h : Fault} (ts : List Token) → ReadAs left_old ts
          → (stops : Stops list_profile so.tokens ts None None h) → games_before stops ≡ (read list_profile so.tokens).progress.games
          → CountsDevices h.reason s t 0 0 → ListStops left_old left_new a b (Refused h)
      by_stops ts reads (Stops.unwritten at writing) same counts = absurd (omega (arith, counts.1))
      by_stops ts reads (Stops.refused h fault gains) same counts =
          ListStops.refused h (reads h fault (λ s. IsRefused list_profile s h × IsListed s (Some h) a b) (λ s refused is. (
            refused,
            record {
              fault = ap (λ (r : Read). r.fault) is ∙ fault;
              written = subst (λ gs. Appends a b (lines_from 1 gs)) (sym same ∙ ap (λ (r : Read). r.progress.games) (sym is)) so.written;
            },
          )))

      by_stop : {h : Fault} → NextStops list_profile so.bytes so.tokens left left_new r None None h
          → CountsDevices h.reason s t 0 0 → ListStops left_old left_new a b (Refused h)
      by_stop (NextStops.at_token h more consumed to) counts =
          by_stops to.tokens (reads_at_token left_old left_new (so.bytes ++ more) to.tokens (all more consumed) to.next) to.stops to.no_game counts
      by_stop (NextStops.at_end h more consumed end short to) counts =
          by_stops (tokens_of (so.bytes ++ more))
          (reads_at_end left_old left_new (so.bytes ++ more) (all more consumed) end short) to.stops to.no_game counts
      by_stop (NextStops.unread more consumed short none) counts =
          unread (so.bytes ++ more) (all more consumed) short (no_more (so.bytes ++ more) none)
      by_stop (NextStops.too_long more front rest consumed cut place some none) counts =
          subst (λ n. ListStops left_old left_new a b (Refused (record { at = n; reason = InputTooLong }))) place
          (too_long front rest (subst (Consumes left_old left_new) cut (all more consumed)) place some (no_more front none))
