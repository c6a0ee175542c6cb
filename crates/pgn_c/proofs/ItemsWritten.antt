-- The lines of items in a buffer, one item after another.
use Rattle.pgn_c.proofs.Words.{rules, common_steps, ◌≡◌, ℕ, ◌+◌, ◌^◌, ◌<◌, ◌≤◌, ◌⊎◌, inl, inr, Bool, true, false, List, [], ◌∷◌, ◌++◌, length, take, drop, Option, refl, sym, ap, ap₂, subst, ◌∙◌, arith, append-nil, append_assoc, length-append, take_at, drop_at, take_all, drop_all, length-drop, Given, shown, Fault, read, tokens_of, GameEndsAt, IsBegun, IsLeft, WritesItems, all_result, counted, ends_line, first_game, first_line, game_items, given_text, has_marker, plain_result, texts_behind, LinesSoFar, passed_one, profile_in, Lines, MoveFields, PgnItems, Full}
use Rattle.pgn_c.proofs.GivenLists.{game_begins, line_begins, line_goes_on, lines_end, none_more, one_more_text, texts_of_both}

module _ (f : MoveFields) (first : ℕ) (given : List Given) (before now : List ℕ) (l : Lines) (so : LinesSoFar f first given before now l) where
  abbrev behind_passed : List Given
  behind_passed = so.put ++ so.pending

  abbrev written : List ℕ
  written = texts_behind f so.passed behind_passed

  -- an item is passed
  pub pass_one : (g : Given) → l.items < first → first < 2 ^ 64 → LinesSoFar f first (given ++ g ∷ []) before now (passed_one l)
  pass_one g passed small = grind (arith, common_steps, append-nil, length, length-append)

  -- ---- an item's text is put

  -- the items that were passed are all that are passed
  module _ (from : first ≤ l.items) (small : first < 2 ^ 64) where
    at_first : length so.passed ≡ first
    at_first = grind (arith, common_steps, length, length-append)

    module _ (g : Given) (text : List ℕ) (is : text ≡ given_text f (shown given) g) where
      all_written : texts_behind f so.passed (behind_passed ++ g ∷ []) ≡ written ++ text
      all_written = grind (arith, common_steps, one_more_text)

      module _ (new : List ℕ) (fits : l.used + length text ≤ length now) (after : new ≡ take l.used now ++ text ++ drop (l.used + length text) now) where
        new_begun : IsBegun before new (written ++ text)
        new_begun = grind (arith, common_steps, take, take_at, length, length-append, length-drop)

        module _ (lines : Lines) (count : lines.items ≡ counted (l.items + 1)) (used : lines.used ≡ l.used + length text) where
          abbrev longer : List Given
          longer = given ++ g ∷ []

          parts_now : longer ≡ so.passed ++ (behind_passed ++ g ∷ [])
          parts_now = ap (λ (xs : List Given). xs ++ g ∷ []) so.parts ∙ append_assoc so.passed behind_passed (g ∷ [])

          count_now : lines.items ≡ counted (length longer)
          count_now = omega (arith, count, so.count, length-append given (g ∷ []))

          used_now : lines.used ≡ length (texts_behind f so.passed (behind_passed ++ g ∷ []))
          used_now = omega (arith, used, so.used, ap length all_written, length-append written text)

          -- the line goes on
          pub put_in_line : ends_line g ≡ false → lines.whole_items ≡ l.whole_items → lines.whole ≡ l.whole → LinesSoFar f first longer before new lines
          put_in_line ends whole_items whole = search (rules, append_assoc, parts_now, at_first, none_more, count_now, used_now, length, all_written, new_begun)

          -- the line ends
          pub put_line : ends_line g ≡ true → lines.whole_items ≡ lines.items → lines.whole ≡ lines.used → LinesSoFar f first longer before new lines
          put_line ends whole_items whole = search (rules, append-nil, parts_now, at_first, lines_end, count_now, used_now, length, all_written, new_begun)

  -- ---- results

  -- the items of the game that were passed, and those behind them
  module _ (small : first < 2 ^ 64) (behind : List Given) (reached : (behind ≡ []) ⊎ (first ≤ l.items)) where
    game_parts : given ++ behind ≡ so.passed ++ (behind_passed ++ behind)
    game_parts = ap (λ (xs : List Given). xs ++ behind) so.parts ∙ append_assoc so.passed behind_passed behind

    passed_all : (so.passed ≡ take first (given ++ behind)) × (drop first (given ++ behind) ≡ behind_passed ++ behind)
    passed_all = grind (arith, common_steps, length, take, game_parts, take_at, drop_at, at_first, append-nil, take_all, drop_all)

  module _ (s : List ℕ) (small : first < 2 ^ 64) where
    -- all items of the game were given
    pub all_items : game_items (profile_in Full) s ≡ given → (has_end : Bool) → has_marker given ≡ has_end → (fault : Option Fault) (end : ℕ)
        → (has_end ≡ true) ⊎ ((read (profile_in Full) (tokens_of s)).fault ≡ fault) → (result : PgnItems)
        → result ≡ all_result has_end fault end l.used l.items → (result.status ≡ 0 → GameEndsAt (profile_in Full) s result.end)
        → WritesItems f s first before now result
    all_items game has_end is_end fault end told result is ends =
        let parts = passed_all small [] (inl refl) in
        let same : given ++ [] ≡ game_items (profile_in Full) s = append-nil given ∙ sym game in
        record {
          passed = so.passed;
          put = behind_passed;
          left = [];
          end = end;
          is_passed = parts.0 ∙ ap (take first) same;
          is_put = ap (drop first) (sym same) ∙ parts.1;
          written = so.begun;
          is_result = is
              ∙ by told
              ∙ ap₂ (λ (n k : ℕ). all_result (has_marker (game_items (profile_in Full) s)) (read (profile_in Full) (tokens_of s)).fault end n k) so.used
              (so.count ∙ ap (λ (xs : List Given). counted (length xs)) so.parts);
          game_ends = ends;
        }
      where
        end_is : has_end ≡ has_marker (game_items (profile_in Full) s)
        end_is = sym is_end ∙ ap has_marker (sym game)

        marked : (has : Bool) → has ≡ true → (a b : Option Fault) → all_result has a end l.used l.items ≡ all_result has b end l.used l.items
        marked has h a b = grind (arith, common_steps)

        by : (has_end ≡ true) ⊎ ((read (profile_in Full) (tokens_of s)).fault ≡ fault)
            → all_result has_end fault end l.used l.items
            ≡ all_result (has_marker (game_items (profile_in Full) s)) (read (profile_in Full) (tokens_of s)).fault end l.used l.items
        by h = grind (arith, common_steps, end_is)

    -- the text of the next item does not fit
    pub full_buffer : (g : Given) (more : List Given) → game_items (profile_in Full) s ≡ given ++ first_game (g ∷ more) → (text : List ℕ)
        → text ≡ given_text f (shown given) g → first ≤ l.items → length now < l.used + length text → (result : PgnItems)
        → result ≡ record (plain_result 2 l.whole l.whole_items) { fault = 51 }
        → (after : List ℕ) → after ≡ now → WritesItems f s first before after result
    full_buffer g more game text is from full result same after still =
        let begins = game_begins g more in
        let behind : List Given = g ∷ begins.0 in
        let is_game : given ++ behind ≡ game_items (profile_in Full) s = ap (λ (xs : List Given). given ++ xs) (sym begins.1) ∙ sym game in
        let parts = passed_all small behind (inr from) in
        let left : so.put ++ (so.pending ++ behind) ≡ behind_passed ++ behind = sym (append_assoc so.put so.pending behind) in
        let texts : written ≡ texts_behind f so.passed so.put ++ texts_behind f (so.passed ++ so.put) so.pending = texts_of_both f so.passed so.put so.pending in
        record {
          passed = so.passed;
          put = so.put;
          left = so.pending ++ behind;
          end = 0;
          is_passed = parts.0 ∙ ap (take first) is_game;
          is_put = ap (drop first) (sym is_game) ∙ parts.1 ∙ sym left;
          written = record {
            behind = texts_behind f (so.passed ++ so.put) so.pending ++ so.begun.behind;
            now = still ∙ so.begun.now ∙ ap (λ (xs : List ℕ). xs ++ so.begun.behind) texts
                ∙ append_assoc (texts_behind f so.passed so.put) (texts_behind f (so.passed ++ so.put) so.pending) so.begun.behind;
            long = ap length still ∙ so.begun.long;
          };
          is_result = left_items so.pending begins.0 refl;
          game_ends = λ ok. absurd (omega (arith, ok, ap (λ (r : PgnItems). r.status) same));
        }
      where
        -- the line that does not fit
        line_long : (tail : List Given) → length before < length (texts_behind f so.passed so.put) + length (texts_behind f (so.passed ++ so.put) (first_line (so.pending ++ g ∷ tail)))
        line_long tail = grind (arith, common_steps, line_begins, line_goes_on, append_assoc, one_more_text, texts_of_both, length, length-append)

        is_full : result ≡ record (plain_result 2 (length (texts_behind f so.passed so.put)) (counted (length (so.passed ++ so.put)))) { fault = 51 }
        is_full = same ∙ ap₂ (λ (n k : ℕ). record (plain_result 2 n k) { fault = 51 }) so.whole so.whole_count

        left_items : (pending tail : List Given) → pending ≡ so.pending
            → IsLeft f so.passed so.put (pending ++ g ∷ tail) (has_marker (game_items (profile_in Full) s)) (read (profile_in Full) (tokens_of s)).fault 0 (length before) result
        left_items [] tail same_pending = grind (arith, common_steps, length, line_long, is_full)
        left_items (x ∷ xs) tail same_pending =
            (so.lines, subst (λ (ys : List Given). length before < length (texts_behind f so.passed so.put) + length (texts_behind f (so.passed ++ so.put) (first_line (ys ++ g ∷ tail)))) (sym same_pending) (line_long tail), is_full)
