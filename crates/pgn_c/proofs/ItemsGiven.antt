-- The items of a text, given call by call, and what is written of them.
use Rattle.pgn_c.proofs.Words.{rules, common_steps, ◌≡◌, ℕ, take, length-append, length-take-le, append-nil, ◌<◌, ◌≤◌, ◌^◌, ◌⊎◌, inl, inr, Bool, true, false, List, [], ◌∷◌, ◌++◌, length, Option, None, Some, refl, sym, ap, subst, ◌∙◌, arith, append_assoc, is_some, Device, Token, tokens_of, Given, shown, Current, GivesItem, IsBehindTags, Items, ItemsRead, given_as, given_if, given_next, has_read_marker, shown_word, Full, Fault, read, GameEndsAt, WritesItems, all_result, first_game, game_items, given_text, plain_result, GivenSoFar, LinesSoFar, PutsItem, PutsText, code_ends, front_text, is_marker, passed_one, profile_in, Lines, MoveFields, PgnItems}
use Rattle.pgn_game.specs.declared.item.Item.{Item as CodeItem}
use Rattle.pgn_game.specs.laws.ItemsJoined.{GivenAll, IsFront, ReadHasFailed, all_given}
use Rattle.pgn_c.specs.ItemLines.{fault_result}
use Rattle.pgn_c.proofs.GivenLists.{game_goes_on, marker_later, whole_game}
use Rattle.pgn_c.proofs.ItemTexts.{line_ends, marker_only, marks, text_is}
use Rattle.pgn_c.proofs.ItemsWritten.{all_items, full_buffer, pass_one, put_in_line, put_line}

-- The bytes of a source that were consumed, and those that are left.
left_text : (s u rest more left : List ℕ) → s ≡ u ++ rest → rest ≡ more ++ left → s ≡ (u ++ more) ++ left
left_text s u rest more left text parts = text ∙ ap (λ (xs : List ℕ). u ++ xs) parts ∙ sym (append_assoc u more left)

not_both : (b : Bool) → b ≡ false → b ≡ true → ⊥
not_both b no_fit fit = cc

below_or_not : (a b : ℕ) → (a < b) ⊎ (b ≤ a)
below_or_not a b = grind (arith, common_steps)

-- a marker given last is one that was read, and nothing is given next behind it
marker_read : (c : Current) (i : CodeItem) → c.last ≡ Some i → is_marker i ≡ true → has_read_marker c ≡ true
marker_read c i last mark = grind (arith, common_steps)

none_behind : (c : Current) (i : CodeItem) → c.last ≡ Some i → is_marker i ≡ true → (next : Option CodeItem) → IsBehindTags next c.last → given_if c next ≡ []
none_behind c i last mark next at = grind (arith, common_steps)

-- none of the tokens that were read is rejected
none_rejected : (left : Option (List ℕ)) (u : List ℕ) (i : Items) (tokens : List Token) → ItemsRead (profile_in Full) left u i tokens
    → (read (profile_in Full) tokens).fault ≡ None
none_rejected left u i tokens h = grind (arith, common_steps)

-- without a marker the status is not 0
not_whole : (fault : Option Fault) (written next : ℕ) → (all_result false fault 0 written next).status ≡ 0 → ⊥
not_whole fault written next ok = grind (arith, common_steps)

module _ (f : MoveFields) (s : List ℕ) (first : ℕ) (before now : List ℕ) (old : Items) (rest : List ℕ) (l : Lines) (small : first < 2 ^ 64)
    (so : GivenSoFar f s first before now old rest l) where
  -- ---- an item was given
  module _ (left : List ℕ) (new : Items) (i : CodeItem) (gives : GivesItem (profile_in Full) so.u so.given (Some rest) (Some left) new i) where
    abbrev g : Given
    g = given_as new.current i

    text_now : s ≡ (so.u ++ gives.more) ++ left
    text_now = left_text s so.u rest gives.more left so.text gives.consumed

    text_given : given_text f (shown so.given) g ≡ front_text f new.current i ++ shown_word new.current
    text_given = grind (arith, common_steps, is_some, text_is)

    -- what was given goes on
    goes_on : (buffer : List ℕ) (lines : Lines) → is_marker i ≡ false → LinesSoFar f first (so.given ++ g ∷ []) before buffer lines
        → GivenSoFar f s first before buffer new left lines
    goes_on buffer lines plain written = search (rules, text_now, marker_later)

    passes : l.items < first → LinesSoFar f first (so.given ++ g ∷ []) before now (passed_one l)
    passes early = pass_one f first so.given before now l so.lines g early small

    module _ (text after : List ℕ) (is : text ≡ front_text f new.current i ++ shown_word new.current) (from : first ≤ l.items) where
      is_text : text ≡ given_text f (shown so.given) g
      is_text = is ∙ sym text_given

      put_by : (lines : Lines) (ends : Bool) → code_ends i ≡ ends → PutsText l lines text ends now after true → LinesSoFar f first (so.given ++ g ∷ []) before after lines
      put_by lines false at puts =
          put_in_line f first so.given before now l so.lines from small g text is_text after puts.0 puts.2 lines
          (ap (λ (x : Lines). x.items) puts.1) (ap (λ (x : Lines). x.used) puts.1) (line_ends new.current i ∙ at)
          (ap (λ (x : Lines). x.whole_items) puts.1) (ap (λ (x : Lines). x.whole) puts.1)
      put_by lines true at puts =
          put_line f first so.given before now l so.lines from small g text is_text after puts.0 puts.2 lines
          (ap (λ (x : Lines). x.items) puts.1) (ap (λ (x : Lines). x.used) puts.1) (line_ends new.current i ∙ at)
          (ap (λ (x : Lines). x.whole_items) puts.1 ∙ sym (ap (λ (x : Lines). x.items) puts.1))
          (ap (λ (x : Lines). x.whole) puts.1 ∙ sym (ap (λ (x : Lines). x.used) puts.1))

      puts_text : (lines : Lines) → PutsText l lines text (code_ends i) now after true → LinesSoFar f first (so.given ++ g ∷ []) before after lines
      puts_text lines puts = put_by lines (code_ends i) refl puts

    -- the game's items, by what was given
    module _ (front : IsFront ((so.given ++ g ∷ []) ++ given_next new.current) (all_given (profile_in Full) ((so.u ++ gives.more) ++ left))) where
      items_are : game_items (profile_in Full) s ≡ so.given ++ first_game (g ∷ (given_next new.current ++ front.0))
      items_are = grind (arith, common_steps, text_now, append_assoc, game_goes_on)

      -- the buffer is full
      full : (text after : List ℕ) (lines : Lines) → text ≡ front_text f new.current i ++ shown_word new.current → first ≤ l.items
          → PutsText l lines text (code_ends i) now after false → (result : PgnItems)
          → result ≡ record (plain_result 2 lines.whole lines.whole_items) { fault = 51 } → WritesItems f s first before after result
      full text after lines is from puts result same =
          full_buffer f first so.given before now l so.lines s small g (given_next new.current ++ front.0) items_are text
          (is ∙ sym text_given) from puts.0 result (same ∙ ap (λ (x : Lines). record (plain_result 2 x.whole x.whole_items) { fault = 51 }) puts.1) after puts.2

      -- the marker ends where the next byte is
      ends_at : is_marker i ≡ true → game_items (profile_in Full) s ≡ so.given ++ g ∷ []
          → (later : List Token) × (tokens_of ((so.u ++ gives.more) ++ left) ≡ gives.have_given.tokens ++ later)
          → GameEndsAt (profile_in Full) s new.lexer.count
      ends_at mark game first_tokens = search (rules, marker_read, none_behind, text_now, none_rejected, append-nil)

      -- the marker was given
      whole : (buffer : List ℕ) (lines : Lines) → is_marker i ≡ true → LinesSoFar f first (so.given ++ g ∷ []) before buffer lines
          → (result : PgnItems) (end : ℕ) → result ≡ record (plain_result 0 lines.used lines.items) { end = end } → end ≡ new.lexer.count
          → (first_tokens : (later : List Token) × (tokens_of ((so.u ++ gives.more) ++ left) ≡ gives.have_given.tokens ++ later))
          → WritesItems f s first before buffer result
      whole buffer lines mark written result end is at first_tokens =
          let game : game_items (profile_in Full) s ≡ so.given ++ g ∷ [] =
          items_are ∙ ap (λ (xs : List Given). so.given ++ xs) (marker_only new.current i (given_next new.current ++ front.0) mark) in
          all_items f first (so.given ++ g ∷ []) before buffer lines written s small game true
          (marker_later so.given (g ∷ []) so.no_marker ∙ marks new.current i ∙ mark) None end (inl refl) result is
          (λ ok. subst (GameEndsAt (profile_in Full) s) (sym at ∙ sym (ap (λ (r : PgnItems). r.end) is)) (ends_at mark game first_tokens))

    -- what putting the item did
    module _ (lines : Lines) (after : List ℕ) (fits : Bool) (puts : PutsItem f first new.current i l lines now after fits) where
      lines_by : (l.items < first) ⊎ (first ≤ l.items) → fits ≡ true → LinesSoFar f first (so.given ++ g ∷ []) before after lines
      lines_by (inl early) yes_fits =
          let passed = puts.passes early in
          subst (λ (x : Lines). LinesSoFar f first (so.given ++ g ∷ []) before after x) (sym passed.1)
          (subst (λ (xs : List ℕ). LinesSoFar f first (so.given ++ g ∷ []) before xs (passed_one l)) (sym passed.2) (passes early))
      lines_by (inr from) yes_fits = search (rules, puts_text)

      lines_now : fits ≡ true → LinesSoFar f first (so.given ++ g ∷ []) before after lines
      lines_now yes_fits = lines_by (below_or_not l.items first) yes_fits

      -- the call goes on
      pub more : fits ≡ true → is_marker i ≡ false → GivenSoFar f s first before after new left lines
      more yes_fits plain = goes_on after lines plain (lines_now yes_fits)

      module _ (front : IsFront ((so.given ++ g ∷ []) ++ given_next new.current) (all_given (profile_in Full) ((so.u ++ gives.more) ++ left))) (result : PgnItems) where
        pub game_written : fits ≡ true → is_marker i ≡ true → (end : ℕ) → result ≡ record (plain_result 0 lines.used lines.items) { end = end }
            → end ≡ new.lexer.count
            → (first_tokens : (later : List Token) × (tokens_of ((so.u ++ gives.more) ++ left) ≡ gives.have_given.tokens ++ later))
            → WritesItems f s first before after result
        game_written yes_fits mark end is at first_tokens = whole front after lines mark (lines_now yes_fits) result end is at first_tokens

        pub buffer_full : fits ≡ false → result ≡ record (plain_result 2 lines.whole lines.whole_items) { fault = 51 } → WritesItems f s first before after result
        buffer_full none_fits is = by (below_or_not l.items first)
          where
            by : (l.items < first) ⊎ (first ≤ l.items) → WritesItems f s first before after result
            by (inl early) = absurd (not_both fits none_fits (puts.passes early).0)
            by (inr from) =
                full front (front_text f new.current i ++ shown_word new.current) after lines refl from
                (subst (λ (b : Bool). PutsText l lines (front_text f new.current i ++ shown_word new.current) (code_ends i) now after b) none_fits (puts.puts from)) result is

  -- ---- nothing more is given
  module _ (fault : Option Fault) (all : GivenAll (profile_in Full) (so.u ++ rest) so.given fault) (result : PgnItems)
      (is : result ≡ all_result false fault 0 l.used l.items) where
    pub all_given_written : WritesItems f s first before now result
    all_given_written =
        all_items f first so.given before now l so.lines s small
        (ap first_game (ap (all_given (profile_in Full)) so.text ∙ all.whole) ∙ whole_game so.given so.no_marker)
        false so.no_marker fault 0
        (inr (ap (λ (t : List ℕ). (read (profile_in Full) (tokens_of t)).fault) so.text ∙ all.fault_is)) result is
        (λ ok. absurd (not_whole fault l.used l.items (sym (ap (λ (r : PgnItems). r.status) is) ∙ ok)))

  -- a fault, since no read fails
  pub fault_written : (source : Device) (fault : Fault) → source.failures ≡ 0 → source.failures_after ≡ 0
      → ReadHasFailed source fault ⊎ GivenAll (profile_in Full) (so.u ++ rest) so.given (Some fault)
      → (result : PgnItems) → result ≡ fault_result fault l.used l.items → WritesItems f s first before now result
  fault_written source fault zero_before zero_after (inl failed) result is = absurd (omega (arith, failed.counted, zero_before, zero_after))
  fault_written source fault zero_before zero_after (inr all) result is = all_given_written (Some fault) all result is

-- the bytes that were written stay in the buffer
pub room_after : (f : MoveFields) (first : ℕ) (c : Current) (i : CodeItem) (l lines : Lines) (now after : List ℕ) → l.used ≤ length now
    → PutsItem f first c i l lines now after true → lines.used ≤ length after
room_after f first c i l lines now after room puts = search (rules, below_or_not, length, length-append, take, length-take-le)
