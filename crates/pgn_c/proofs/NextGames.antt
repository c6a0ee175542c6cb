-- What a conversion of one game finds, from the calls of the converter.
use Rattle.pgn_game.proofs.stepping.OneMoreToken.{torn-none, writing_more}
use Rattle.pgn_c.proofs.Words.{◌≡◌, ℕ, ◌+◌, ◌-◌, ◌^◌, ◌<◌, ◌≤◌, Bool, true, false, List, [], ◌∷◌, ◌++◌, length, take, drop, Option, None, Some, Result, refl, sym, ap, subst, ◌∙◌, append-nil, append_assoc, length-append, arith, codes, length-take-le, take-append-drop, take_at, bytes_eq-Decides, Kind, Token, EndsAt, tokens_of, Device, Marker, InputTooLong, Fault, marker_text, Profile, marker_of, game_text, text_of, read, due, games_read, FinishesGame, PgnGame, AreKnown, NextOf, Finds, fault_result, game_result, nothing, status_for, rules, common_steps, length-take, Game, AreShown, Converter, Ends, finished_game_of, IsLast, Stands, Stops, refused, unwritten, FedAll, FedGame, FedToFault, within_limit, StopsIn, at_token, too_long, Finishes, FinishesToFault, games_before, position_at_stop, refused_position, reported_position}
use Rattle.std.specs.Io.KnownBytes.{Appends}
use Rattle.pgn_lexer.specs.Standing.{coming}
use Rattle.pgn_lexer.specs.Stands.{Follows, first, still}
use Rattle.pgn_game.specs.export.Due.{Gains}
use Rattle.pgn_game.specs.public.Written.{seen}
use Rattle.pgn_game.specs.laws.GameEnds.{GamesEndByMarker, TextsEndBehindMarker, TextsEndBetweenGames}

-- ---- a marker

-- the marker, and where it begins
record Marks (k : Kind) (at end : ℕ) (text : List ℕ) : Type 0 where
  marker : Marker
  is_marker : text ≡ marker_text marker
  place : end - length (marker_text marker) ≡ at

of_score : (at end : ℕ) (s text : List ℕ) → marker_of (Kind.symbol s) ≡ Some text
    → end ≡ at + length s → Marks (Kind.symbol s) at end text
of_score at end s text marker ends = grind (arith, common_steps, length, bytes_eq-Decides)

marks : (k : Kind) (at end : ℕ) (text : List ℕ) → marker_of k ≡ Some text → EndsAt k at end → Marks k at end text
marks k at end text marker ends = grind (arith, common_steps, codes, of_score)

-- ---- a write that fails

due_is : (p : Profile) (ts : List Token) (a b : Option (List ℕ)) (gains : Gains p [] ts a b) → due p ts ≡ gains.text
due_is p ts a b gains = gains.due_for ∙ ap (λ l. l ++ gains.text) (torn-none p.missing_result p.mode)

-- ---- what the bytes before place 2^62 show

shown_within : (s : List ℕ) (ts : List Token) → AreKnown (within_limit s) ts → AreShown s ts
shown_within s ts known =
    AreShown.so_far (within_limit s) (drop (2 ^ 62) s) (sym (take-append-drop (2 ^ 62) s)) (omega (arith, length-take (2 ^ 62) s)) known

-- ---- the sink of a converter that is as silent as before

pub ends_as : (mid new : Converter) (outcome : Result Bool Fault) (sink : Device) (old_silent silent : Bool) → silent ≡ old_silent
    → Ends mid new outcome (seen silent sink) → Ends mid new outcome (seen old_silent sink)
ends_as mid new outcome sink old_silent silent same ends = subst (λ (b : Bool). Ends mid new outcome (seen b sink)) same ends

pub finds_as : (p : Profile) (s piece : List ℕ) (found : PgnGame) (new : Converter) (sink : Device) (silent is : Bool) → silent ≡ is
    → Finds p s piece found new (seen silent sink).before (seen silent sink).after
    → Finds p s piece found new (seen is sink).before (seen is sink).after
finds_as p s piece found new sink silent is same finds =
    subst (λ (b : Bool). Finds p s piece found new (seen b sink).before (seen b sink).after) same finds

-- ---- the converter

module _ (p : Profile) (u piece : List ℕ) (before : Option (List ℕ)) (laws : GamesEndByMarker) (between : TextsEndBetweenGames) where
  abbrev s : List ℕ
  s = u ++ piece

  still_none : (bs : List ℕ) → still None bs ≡ None
  still_none bs = grind (arith, common_steps)

  none_still : still None piece ≡ None
  none_still = still_none piece

  position_is : (new : Converter) (f : Fault) → new.fault ≡ Some f → refused_position new ≡ reported_position new.reading f.reason
  position_is new f kept = ap (λ (o : Option Fault). elim o [ None ↦ None | Some g ↦ reported_position new.reading g.reason ]) kept

  whole_of : (read p (tokens_of s)).fault ≡ None → due p (tokens_of s) ≡ text_of p (games_read p (tokens_of s))
  whole_of passes = between p s passes

  last_is : (xs ys : List Game) (x y : Game) → xs ++ x ∷ [] ≡ ys ++ y ∷ [] → x ≡ y
  last_is xs ys x y e = grind (arith, common_steps, length, length-append)

  -- what the code answers of a game just finished
  abbrev Answered : Converter → ℕ → PgnGame → Type 0
  Answered new end result = (game : Game) (marker : Marker) → new.just_finished ≡ Some (finished_game_of game)
      → game.marker ≡ marker_text marker → result ≡ game_result game marker (end - length (marker_text marker)) end

  -- the whole text of one game
  whole_text : (ts : List Token) (game : Game) → due p ts ≡ text_of p (games_read p ts)
      → games_read p ts ≡ game ∷ [] → due p ts ≡ game_text p game
  whole_text ts game whole one = whole ∙ ap (text_of p) one ∙ append-nil (game_text p game)

  module _ (result : PgnGame) (after : Option (List ℕ)) where
    -- a game that the bytes decide
    pub game_fed : (new : Converter) (used n : ℕ) → used ≤ length piece → n ≡ length u + used
        → FedGame p u [] piece used new before after → Answered new n result → Finds p s piece result new before after
    game_fed new used n within count fed answer =
        let finishes : FinishesGame p fed.tokens fed.marker =
        record {
          passes = fed.stands.has_read.passes;
          game = fed.game;
          one_more = fed.one_game ∙ ap (λ gs. gs ++ fed.game ∷ []) (sym fed.no_game);
        } in
        let law = laws p fed.tokens fed.marker finishes in
        let ends : EndsAt fed.marker.kind fed.marker.at n = subst (EndsAt fed.marker.kind fed.marker.at) (sym count) fed.ends in
        let mark = marks fed.marker.kind fed.marker.at n fed.game.marker law.is_marker ends in
        let is =
        answer fed.game mark.marker fed.just_finished mark.is_marker
        ∙ ap (λ at. game_result fed.game mark.marker at n) mark.place in
        let end : result.end ≡ n = ap (λ (r : PgnGame). r.end) is in
        let ts : List Token = fed.tokens ++ fed.marker ∷ [] in
        let front : List ℕ = u ++ take used piece in
        let parts : s ≡ front ++ drop used piece =
        ap (λ l. u ++ l) (sym (take-append-drop used piece)) ∙ sym (append_assoc u (take used piece) (drop used piece)) in
        let size : length front ≡ n = omega (arith, length-append u (take used piece), length-take-le used piece within, count) in (
          NextOf.game (record {
            tokens = fed.tokens;
            at = fed.marker;
            marker = mark.marker;
            game = fed.game;
            shown = shown_within s ts fed.next;
            none_before = fed.no_game;
            passes = fed.stands.has_read.passes;
            one_game = fed.one_game;
            is_marker = mark.is_marker;
            ends = subst (EndsAt fed.marker.kind fed.marker.at) (sym end) ends;
            settled = λ behind more. by_rest (drop used piece) refl parts size end behind more;
            wrote = subst (Appends before after) (sym (due_is p ts before after fed.gains) ∙ whole_text ts fed.game law.whole fed.one_game) fed.gains.appended;
            is_result = is ∙ ap (λ m. game_result fed.game mark.marker fed.marker.at m) (sym end);
          }),
          (fed.stands.has_read.profile, fed.just_finished),
        )
      where
        by_rest : (rest : List ℕ) → drop used piece ≡ rest → s ≡ (u ++ take used piece) ++ drop used piece
            → length (u ++ take used piece) ≡ n → result.end ≡ n → result.end < length s → (more : List ℕ)
            → (later : List Token) × (tokens_of (take (result.end + 1) s ++ more) ≡ (fed.tokens ++ fed.marker ∷ []) ++ later)
        by_rest [] is parts size end behind more = grind (arith, common_steps, length, length-append, take)
        by_rest (b ∷ bs) is parts size end behind more =
            let front : List ℕ = u ++ take used piece in
            let cut : s ≡ (front ++ b ∷ []) ++ bs = parts ∙ ap (λ l. front ++ l) is ∙ sym (append_assoc front (b ∷ []) bs) in
            let taken : take (result.end + 1) s ≡ front ++ b ∷ [] =
            ap (take (result.end + 1)) cut
            ∙ take_at (front ++ b ∷ []) bs (result.end + 1) (omega (arith, end, size, length-append front (b ∷ []))) in (
              coming new.lexer (b ∷ more),
              ap (λ l. tokens_of (l ++ more)) taken ∙ ap tokens_of (append_assoc front (b ∷ []) more)
                  ∙ fed.stands.lexer.tokens (b ∷ more) (subst (λ l. Follows (first l) (b ∷ more)) (sym is) refl),
            )

    -- a token that is rejected whatever comes, a write that failed, or a text that is too long
    pub fault_fed : (new : Converter) (f : Fault) → StopsIn u piece (λ bytes fault. FedToFault p bytes [] fault new.reading before after)
        (λ front. (now : Converter) × FedAll p u None [] front now before after × (new.reading ≡ now.reading)) f
        → new.fault ≡ Some f → result ≡ fault_result (status_for 1 f.reason) f (refused_position new) → Finds p s piece result new before after
    fault_fed new f (at_token _ to) kept answer =
        by_stops f to.fed.stops (answer ∙ ap (fault_result (status_for 1 f.reason) f) (position_is new f kept ∙ to.position)) to.no_game
      where
        known : AreKnown (within_limit s) to.fed.tokens
        known more = to.fed.next more

        by_stops : (g : Fault) (stops : Stops p [] to.fed.tokens before after g)
            → result ≡ fault_result (status_for 1 g.reason) g (position_at_stop stops) → games_before stops ≡ []
            → Finds p s piece result new before after
        by_stops g (refused _ fault gains) is none = search (rules, due_is)
        by_stops _ (unwritten at writing) is none = (
          NextOf.full (record {
            at = at;
            tokens = to.fed.tokens;
            shown = shown_within s to.fed.tokens known;
            stops = writing;
            no_game = none;
            is_result = is;
          }),
          tt,
        )
    fault_fed new _ (too_long front rest cut place some (now, fed, same)) kept answer = (
      NextOf.too_long (record {
        bytes = u ++ front;
        rest = rest;
        cut = ap (λ l. u ++ l) cut ∙ sym (append_assoc u front rest);
        long = place;
        some = some;
        tokens = fed.tokens;
        known = λ more. (coming now.lexer more, fed.stands.lexer.tokens more (subst (λ b. Follows b more) (sym (still_none front)) tt));
        all_decided = λ less. fed.decided (omega (arith, less, ap (length {A = ℕ}) cut, length-append front rest));
        passes = fed.stands.has_read.passes;
        no_game = fed.no_game;
        wrote = subst (Appends before after) (sym (due_is p fed.tokens before after fed.gains)) fed.gains.appended;
        is_result = answer ∙ ap (fault_result 1 (record { at = 2 ^ 62; reason = InputTooLong })) (position_is new _ kept);
      }),
      tt,
    )

    -- ---- the end of the text

    module _ (mid : Converter) (middle : Option (List ℕ)) (fed : FedAll p u None [] piece mid before middle) where
      stands : Stands p mid s None fed.tokens
      stands = subst (λ b. Stands p mid s b fed.tokens) none_still fed.stands

      -- it has no byte at place 2^62
      all_short : mid.lexer.count ≤ 2 ^ 62 → length s ≤ 2 ^ 62
      all_short few = omega (arith, few, stands.lexer.count)

      known : AreKnown s fed.tokens
      known more = (coming mid.lexer more, stands.lexer.tokens more tt)

      -- what is written is due for all tokens
      all_due : Gains p fed.tokens (tokens_of s) middle after → Appends before after (due p (tokens_of s))
      all_due gains = grind (arith, common_steps, due_is)

      pub game_at_end : (new : Converter) (n : ℕ) → TextsEndBehindMarker → mid.lexer.count ≤ 2 ^ 62 → n ≡ length s
          → Finishes p s fed.tokens new true middle after → Answered new n result → Finds p s piece result new before after
      game_at_end new n law few count fin answer =
          let last = law p mid s fed.tokens stands (fin.game.0 refl) in
          let game = last.finishes.game in
          let ends_by = laws p fed.tokens last.marker last.finishes in
          let ts : List Token = fed.tokens ++ last.marker ∷ [] in
          let one = last.finishes.one_more ∙ ap (λ gs. gs ++ game ∷ []) fed.no_game in
          let finished = fin.just_finished refl in
          let held = subst (λ o. IsLast o (games_read p (tokens_of s))) finished.1 fin.has_read.just_finished in
          let same : held.1 ≡ game = last_is held.0 [] held.1 game (sym held.2 ∙ last.same ∙ one) in
          let just : new.just_finished ≡ Some (finished_game_of game) = finished.1 ∙ ap Some (held.3 ∙ ap finished_game_of same) in
          let ends : EndsAt last.marker.kind last.marker.at n = subst (EndsAt last.marker.kind last.marker.at) (sym count) last.ends in
          let mark = marks last.marker.kind last.marker.at n game.marker ends_by.is_marker ends in
          let is =
          answer game mark.marker just mark.is_marker
          ∙ ap (λ at. game_result game mark.marker at n) mark.place in
          let end : result.end ≡ n = ap (λ (r : PgnGame). r.end) is in (
            NextOf.game (record {
              tokens = fed.tokens;
              at = last.marker;
              marker = mark.marker;
              game = game;
              shown = AreShown.at_end (all_short few) _ (last.tokens ∙ sym (append_assoc fed.tokens (last.marker ∷ []) _));
              none_before = fed.no_game;
              passes = last.finishes.passes;
              one_game = one;
              is_marker = mark.is_marker;
              ends = subst (EndsAt last.marker.kind last.marker.at) (sym end) ends;
              settled = λ behind. absurd (omega (arith, behind, end, count));
              wrote = subst (Appends before after)
                  (whole_of fin.has_read.passes ∙ ap (text_of p) (last.same ∙ one) ∙ append-nil (game_text p game)) (all_due fin.gains);
              is_result = is ∙ ap (λ m. game_result game mark.marker last.marker.at m) (sym end);
            }),
            (fin.has_read.profile, just),
          )

      pub none_at_end : (new : Converter) → mid.lexer.count ≤ 2 ^ 62 → Finishes p s fed.tokens new false middle after
          → result ≡ nothing 4 → Finds p s piece result new before after
      none_at_end new few fin is =
          let none : games_read p (tokens_of s) ≡ [] = by_games (games_read p (tokens_of s)) refl in (
            NextOf.no_game (record {
              short = all_short few;
              passes = fin.has_read.passes;
              no_game = none;
              wrote = subst (Appends before after) (whole_of fin.has_read.passes ∙ ap (text_of p) none) (all_due fin.gains);
              is_result = is;
            }),
            tt,
          )
        where
          by_games : (gs : List Game) → games_read p (tokens_of s) ≡ gs → games_read p (tokens_of s) ≡ []
          by_games gs is = grind (arith, common_steps, length)

      pub fault_at_end : (new : Converter) (f : Fault) → mid.lexer.count ≤ 2 ^ 62 → FinishesToFault p s fed.tokens new f middle after → new.fault ≡ Some f
          → result ≡ fault_result (status_for 5 f.reason) f (refused_position new) → Finds p s piece result new before after
      unfolding writing_more
      fault_at_end new f few fin kept answer =
          by_stops f fin.stops (answer ∙ ap (fault_result (status_for 5 f.reason) f) (position_is new f kept ∙ fin.position))
          (fin.no_game ∙ fed.no_game)
        where
          by_stops : (g : Fault) (stops : Stops p fed.tokens (tokens_of s) middle after g)
              → result ≡ fault_result (status_for 5 g.reason) g (position_at_stop stops) → games_before stops ≡ []
              → Finds p s piece result new before after
          by_stops g (refused _ fault gains) is none = (
            NextOf.needs_more (record {
              short = all_short few;
              fault = g;
              tokens = fed.tokens;
              known = known;
              passes = fed.stands.has_read.passes;
              none_yet = fed.no_game;
              all_decided = fed.decided;
              rejected = fault;
              no_game = none;
              wrote = all_due gains;
              is_result = is;
            }),
            tt,
          )
          by_stops _ (unwritten at writing) is none = (
            NextOf.full (record {
              at = at;
              tokens = tokens_of s;
              shown = AreShown.at_end (all_short few) [] (sym (append-nil (tokens_of s)));
              stops = writing_more p [] before middle after fed.gains writing;
              no_game = none;
              is_result = is;
            }),
            tt,
          )
