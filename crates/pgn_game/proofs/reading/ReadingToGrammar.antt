-- From reading to the grammar: tokens that run to their end spell the games that they finish.
use Rattle.pgn_game.proofs.Words.{◌≡◌, ℕ, ◌+◌, ◌<◌, ◌≤◌, Bool, true, false, ◌&&◌, ◌||◌, not, List, [], ◌∷◌, ◌++◌, length, nat_lt, nat_le, refl, sym, ap, subst, ◌∙◌, arith, append_assoc, append-nil, Option, None, Some, ◌==◌, codes, bytes_eq, is_some, unwrap_or, IsTrue, IsFalse, Result, Ok, Err, list_all, bytes_eq-Decides, false≢true, not-false, leb-false, ltb-false, none-some, FenFault, NoMove, Ambiguous, escaped, Parts, Played, SanFault, Kind, Mode, Full, BadTagName, DuplicateTag, TooManyTags, BadResult, BadFen, TagLineTooLong, SetUpWithoutFen, UnmatchedClose, Stage, Between, AfterLeftBracket, AfterName, AfterValue, AfterTags, InMovetext, Profile, Pair, value_of, has_pair, insert_pair, Item, Game, Part, no_part, position_of, move_of, Level, levels_of, levels_after, depth, here, without_last, start_of, refusal, is_comment, in_name, is_result, is_score, is_number, is_end, is_reduced, fen_fault_field, marker_of, lacks_fen, Next, next, going, whole, AreDropped, pair, SpellsPairs, no_pair, next_pair, IsSetUp, StandsFor, number, period, glyph, comment_open, word, comment_close, Names, new_level, level_after_move, SpellsText, no_more, token, move, variation, BeginsBare, IsResult, SpellsGame, SpellsGames, no_game, next_game, rules, ReducedFen, text_refusal, common_steps}
use Rattle.pgn_lexer.specs.Tokens as tokens
use Rattle.pgn_game.specs.games.Game as games
use Rattle.pgn_game.proofs.reading.RunsToEnd.{at, Runs, ends, goes, finishes}
use Rattle.pgn_game.proofs.refusals.RefusalsInMovetext.{rows_for, same_at_zero, symbol_next, symbol_refusal}
use Rattle.pgn_game.proofs.refusals.RefusalsByStage.{test_failed, rest_passed, open_refusal, open_between, name_refusal, value_refusal, is_textual, after_tags, leads_after_tags, between, leads_between, text_row}
use Rattle.pgn_game.proofs.reading.PairsInTurn.{with_pairs, Takes, taken}
use Rattle.pgn_game.proofs.reading.MovetextTokens.{levels_more, stands_levels, differs, result_is}

-- Movetext that is left, at a level and at those around it.
abbrev deep : List Level → ℕ
deep [] = 0
deep (l ∷ around) = deep around + 1

deep-length : (around : List Level) → deep around ≡ length around
deep-length [] = refl
deep-length (l ∷ around) = let e = deep-length around in omega arith

-- the rest of this level; and where there is one around it, a `)` and the rest of that
data Closes (p : Profile) (first : Parts) : Level → List Level → List Kind → List Item → Type 0 where
  outermost : (l : Level) (ks : List Kind) (items : List Item) → SpellsText p first 0 l ks items → Closes p first l [] ks items
  inside : (l m : Level) (around : List Level) (ks ls : List Kind) (items more : List Item) → SpellsText p first (deep around + 1) l ks items
      → Closes p first m around ls more
      → Closes p first l (m ∷ around) (ks ++ tokens.right_paren ∷ ls) (items ++ games.close_variation ∷ more)

-- one token more at this level, from where it leads
add_front : (p : Profile) {first : Parts} (l n : Level) (around : List Level) (k : Kind) (ks : List Kind)
    (item items : List Item) → ((d : ℕ) (js : List Kind) (is : List Item) → SpellsText p first d n js is
    → SpellsText p first d l (k ∷ js) (item ++ is)) → Closes p first n around ks items → Closes p first l around (k ∷ ks) (item ++ items)
add_front p l _ _ k _ item _ front (outermost n ks items text) = outermost l _ _ (front 0 ks items text)
add_front p l _ _ k _ item _ front (inside n m around ks ls items more text rest) =
    rw (append_assoc item items _) at (inside l m around (k ∷ ks) ls (item ++ items) more (front _ ks items text) rest)

add_variation : {p : Profile} {first : Parts} (l : Level) (around : List Level) (ks ls : List Kind) (items more : List Item)
    → IsTrue l.has_own_move → deep around < p.depth
    → SpellsText p first (deep around + 1) (new_level (without_last l.trail)) ks items → Closes p first l around ls more
    → Closes p first l around (tokens.left_paren ∷ (ks ++ tokens.right_paren ∷ ls))
    (games.open_variation ∷ (items ++ games.close_variation ∷ more))
add_variation _ _ ks _ items _ holds room inner (outermost l ls more text) =
    outermost l (tokens.left_paren ∷ (ks ++ tokens.right_paren ∷ ls)) (games.open_variation ∷ (items ++ games.close_variation ∷ more))
    (variation 0 l ks ls items more holds room inner text)
add_variation _ _ ks _ items _ holds room inner (inside l m around ls js more others text rest) =
    rw (append_assoc ks _ _) at (rw (append_assoc items _ _) at (inside l m around
    (tokens.left_paren ∷ (ks ++ tokens.right_paren ∷ ls)) js (games.open_variation ∷ (items ++ games.close_variation ∷ more)) others
    (variation _ l ks ls items more holds room inner text) rest))

module _ (p : Profile) (first : Parts) (l : Level) where
  add_open : {n : Level} (around : List Level) (ks : List Kind) (items : List Item) → IsTrue l.has_own_move → deep around < p.depth
      → n ≡ new_level (without_last l.trail) → Closes p first n (l ∷ around) ks items → Closes p first l around (tokens.left_paren ∷ ks)
      (games.open_variation ∷ items)
  add_open around ks items holds room e h10 = search (rules, add_variation)

  add_close : (m : Level) (around : List Level) (ks : List Kind) (items : List Item) → Closes p first m around ks items
      → Closes p first l (m ∷ around) (tokens.right_paren ∷ ks) (games.close_variation ∷ items)
  add_close m around ks items rest = inside l m around [] ks [] items (no_more _ l) rest

  nothing_left : (around : List Level) → length around ≡ 0 → Closes p first l around [] []
  nothing_left [] e = outermost l [] [] (no_more 0 l)
  nothing_left (m ∷ around) e = absurd (omega (arith, e))

-- What is left of a game in its movetext, and the games behind it.
record Text_left (p : Profile) (ps : List Pair) (items : List Item) (ks : List Kind) (gs : List Game) : Type 0 where
  text : List Kind
  last : Kind
  behind : List Kind
  more : List Item
  marker : List ℕ
  later : List Game
  kinds : ks ≡ text ++ last ∷ behind
  closes : Closes p (start_of ps) (levels_of items).current (levels_of items).around text more
  is_marker : marker_of last ≡ Some marker
  result : IsResult p.missing_result (value_of ps (codes "Result")) marker
  games : gs ≡ record { pairs = ps; items = items ++ more; marker = marker } ∷ later
  others : SpellsGames p behind later

-- one token more before it
abbrev Adds : Profile → List Pair → List Item → Kind → List Item → Type 0
Adds p ps items k new =
    (text : List Kind) (more : List Item) → Closes p (start_of ps) (levels_of (items ++ new)).current (levels_of (items ++ new)).around text more
    → Closes p (start_of ps) (levels_of items).current (levels_of items).around (k ∷ text) (new ++ more)

text_more : {p : Profile} {ps : List Pair} {items : List Item} (new : List Item) {k : Kind} {ks : List Kind} {gs : List Game}
    → Adds p ps items k new → Text_left p ps (items ++ new) ks gs → Text_left p ps items (k ∷ ks) gs
text_more new adds h = search (rules, append_assoc)

-- What is left of a game at each stage.

record Tags_left (p : Profile) (ps : List Pair) (ks : List Kind) (gs : List Game) : Type 0 where
  tags : List Kind
  given : List Pair
  behind : List Kind
  kinds : ks ≡ tags ++ behind
  pairs : SpellsPairs tags given
  takes : Takes p ps given
  set_up : IsSetUp (with_pairs ps given)
  text : Text_left p (with_pairs ps given) [] behind gs

-- comments that are dropped, and what is left behind them
record Dropping (P : List Kind → Type 0) (ks : List Kind) : Type 0 where
  front : List Kind
  rest : List Kind
  kinds : ks ≡ front ++ rest
  dropped : AreDropped front
  left : P rest

record Bracket (p : Profile) (ps : List Pair) (gs : List Game) (ks : List Kind) : Type 0 where
  behind : List Kind
  kinds : ks ≡ tokens.right_bracket ∷ behind
  tags : Tags_left p ps behind gs

abbrev Bracket_left : Profile → List Pair → List Kind → List Game → Type 0
Bracket_left p ps ks gs = Dropping (Bracket p ps gs) ks

record Value (p : Profile) (ps : List Pair) (name : List ℕ) (gs : List Game) (ks : List Kind) : Type 0 where
  value : List ℕ
  behind : List Kind
  kinds : ks ≡ tokens.str value ∷ behind
  room : length name + length (escaped value) ≤ 249
  result : name ≡ codes "Result" → IsTrue (is_result value)
  fen : name ≡ codes "FEN" → (start : Parts) × (position_of value ≡ Ok start)
  bracket : Bracket_left p (insert_pair (record { name = name; value = value }) ps) behind gs

abbrev Value_left : Profile → List Pair → List ℕ → List Kind → List Game → Type 0
Value_left p ps name ks gs = Dropping (Value p ps name gs) ks

record Name (p : Profile) (ps : List Pair) (gs : List Game) (ks : List Kind) : Type 0 where
  name : List ℕ
  behind : List Kind
  kinds : ks ≡ tokens.symbol name ∷ behind
  fresh : IsFalse (has_pair ps name)
  is_name : IsTrue (list_all in_name name)
  full : name ≡ codes "FEN" → p.mode ≡ Full
  value : Value_left p ps name behind gs

abbrev Name_left : Profile → List Pair → List Kind → List Game → Type 0
Name_left p ps ks gs = Dropping (Name p ps gs) ks

abbrev Left : Profile → Stage → List Pair → List ℕ → List Item → List Kind → List Game → Type 0
Left p Between ps name items ks gs = SpellsGames p ks gs
Left p AfterLeftBracket ps name items ks gs = Name_left p ps ks gs
Left p AfterName ps name items ks gs = Value_left p ps name ks gs
Left p AfterValue ps name items ks gs = Bracket_left p ps ks gs
Left p AfterTags ps name items ks gs = Tags_left p ps ks gs
Left p InMovetext ps name items ks gs = Text_left p ps items ks gs

-- before movetext there are no items, and between games no pairs
abbrev Fits : Stage → List Pair → List Item → Type 0
Fits Between ps items = (ps ≡ []) × (items ≡ [])
Fits InMovetext ps items = Unit {0}
Fits _ ps items = items ≡ []

abbrev After : Profile → Next → List Kind → List Game → Type 0
After p (going part) ks gs = Fits part.stage part.pairs part.items → Left p part.stage part.pairs part.name part.items ks gs
After p (whole g) ks gs = (later : List Game) × (gs ≡ g ∷ later) × SpellsGames p ks later

-- Movetext, token by token.
token_step : {p : Profile} {ps : List Pair} {items item : List Item} {k : Kind} {ks : List Kind} {gs : List Game}
    → StandsFor k item → Text_left p ps (items ++ item) ks gs → Text_left p ps items (k ∷ ks) gs
token_step {p} {items} {item} {k} stands h = grind (arith, common_steps, text_more, add_front, token, stands_levels)

module _ (p : Profile) (ps : List Pair) (items : List Item) where
  adds_move : (s : List ℕ) (played : Played) → Names (here (start_of ps) (levels_of items)) s played → Adds p ps items (tokens.symbol s)
      (games.move played.mv ∷ [])
  adds_move s played names text more c =
      let l = (levels_of items).current in
      add_front p l (level_after_move _ _) _ _ text (games.move _ ∷ []) more
      (λ d js is rest. move d l s played js is names rest) (rw (levels_more items (games.move played.mv)) at c)

  adds_open : IsTrue (levels_of items).current.has_own_move → depth (levels_of items) < p.depth
      → Adds p ps items tokens.left_paren (games.open_variation ∷ [])
  adds_open holds room = search (rules, levels_more, deep-length, add_open)

close_at : (p : Profile) (first : Parts) (l : Level) (around : List Level) (text : List Kind) (more : List Item) → (length around == 0) ≡ false
    → Closes p first (levels_after (record { current = l; around = around }) games.close_variation).current
    (levels_after (record { current = l; around = around }) games.close_variation).around text more
    → Closes p first l around (tokens.right_paren ∷ text) (games.close_variation ∷ more)
close_at p first l around text more some c = search (rules, false≢true, add_close)

adds_close : (p : Profile) (ps : List Pair) (items : List Item) → (depth (levels_of items) == 0) ≡ false
    → Adds p ps items tokens.right_paren (games.close_variation ∷ [])
adds_close p ps items some = search (rules, at, levels_more, close_at)

-- a token after this part of movetext
module _ (p : Profile) (ps : List Pair) (name : List ℕ) (items : List Item) {ks : List Kind} {gs : List Game} where
  open_step : text_refusal p (at InMovetext ps name items) tokens.left_paren ≡ None
      → Text_left p ps (items ++ games.open_variation ∷ []) ks gs → Text_left p ps items (tokens.left_paren ∷ ks) gs
  open_step free h = grind (arith, common_steps, not-false, test_failed, rest_passed, text_more, adds_open, leb-false)

  close_step : text_refusal p (at InMovetext ps name items) tokens.right_paren ≡ None
      → Text_left p ps (items ++ games.close_variation ∷ []) ks gs → Text_left p ps items (tokens.right_paren ∷ ks) gs
  close_step free h = text_more _ (adds_close p ps items (test_failed _ UnmatchedClose None free)) h

  marker_step : {k : Kind} {marker : List ℕ} → marker_of k ≡ Some marker → nat_le 1 (depth (levels_of items)) ≡ false
      → (differs p.missing_result (value_of ps (codes "Result")) marker && (depth (levels_of items) == 0)) ≡ false
      → After p (whole (record { pairs = ps; items = items; marker = marker })) ks gs → Text_left p ps items (k ∷ ks) gs
  marker_step {k} {marker} is shallow same after =
      let outside : depth (levels_of items) ≡ 0 = omega (arith, leb-false 1 (depth (levels_of items)) shallow) in
      record {
        text = [];
        last = k;
        behind = ks;
        more = [];
        marker = marker;
        later = after.0;
        kinds = refl;
        closes = nothing_left p _ _ _ outside;
        is_marker = is;
        result = result_is _ _ marker (same_at_zero _ _ shallow same);
        games = cc (append-nil items);
        others = after.2;
      }

  symbol_step : (s : List ℕ) (is_digits score : Bool) (o : Option (Result Played SanFault))
      → is_number s ≡ is_digits → is_score s ≡ score → move_of (here (start_of ps) (levels_of items)) s ≡ o
      → rows_for p (at InMovetext ps name items) s (is_digits || score) score o ≡ None
      → After p (symbol_next (at InMovetext ps name items) s is_digits score o) ks gs → Text_left p ps items (tokens.symbol s ∷ ks) gs
  symbol_step s true false o digits is_marker one free after = token_step (number s digits) (after tt)
  symbol_step s false false (Some (Ok played)) digits is_marker one free after = search (rules, test_failed, text_more, adds_move)
  symbol_step s false false None digits is_marker one free after = absurd (none-some _ (sym free))
  symbol_step s false false (Some (Err NoMove)) digits is_marker one free after = absurd (none-some _ (sym free))
  symbol_step s false false (Some (Err Ambiguous)) digits is_marker one free after = absurd (none-some _ (sym free))
  symbol_step s true true o digits is_marker one free after = grind (arith, common_steps, marker_step, test_failed, rest_passed)
  symbol_step s false true o digits is_marker one free after = grind (arith, common_steps, marker_step, test_failed, rest_passed)

  text_step : (k : Kind) → refusal p (at InMovetext ps name items) k ≡ None
      → is_end k ≡ false → After p (next (at InMovetext ps name items) k) ks gs → Text_left p ps items (k ∷ ks) gs
  unfolding refusal
  text_step tokens.left_paren free end after = open_step (sym (text_row p (at InMovetext ps name items) tokens.left_paren refl) ∙ free) (after tt)
  text_step tokens.right_paren free end after = close_step (sym (text_row p (at InMovetext ps name items) tokens.right_paren refl) ∙ free) (after tt)
  text_step tokens.period free end after = token_step period (after tt)
  text_step (tokens.glyph n) free end after = token_step (glyph n) (after tt)
  text_step tokens.comment_open free end after = token_step comment_open (after tt)
  text_step (tokens.word s) free end after = token_step (word s) (after tt)
  text_step tokens.comment_close free end after = token_step comment_close (after tt)
  text_step tokens.asterisk free end after =
      let e = sym (text_row p (at InMovetext ps name items) tokens.asterisk refl) ∙ free in search (rules, marker_step, test_failed, rest_passed)
  text_step (tokens.symbol s) free end after = grind (arith, common_steps, symbol_step, text_row, symbol_refusal)
  text_step tokens.end free end after = absurd (false≢true (sym end))
  text_step _ free end after = absurd (none-some _ (sym free))

-- Pairs, token by token.
dropped_more : (k : Kind) (ks : List Kind) → IsTrue (is_comment k) → AreDropped ks → AreDropped (k ∷ ks)
dropped_more k ks is are = cc

forced : (a : Bool) {b : Bool} → (a && b) ≡ false → a ≡ true → b ≡ false
forced a h e = search rules

position_is : (r : Result Parts FenFault) → is_some (fen_fault_field r) ≡ false → (start : Parts) × (r ≡ Ok start)
position_is r h = search rules

is_full : (mode : Mode) {b : Bool} → (is_reduced mode && b) ≡ false → b ≡ true → mode ≡ Full
is_full mode h e = search rules

one_dropped : (P : List Kind → Type 0) {k : Kind} {ks : List Kind} → IsTrue (is_comment k) → Dropping P ks → Dropping P (k ∷ ks)
one_dropped P {k} is h =
    let kinds = ap (λ xs. k ∷ xs) h.kinds in
    record { front = k ∷ h.front; rest = h.rest; kinds = kinds; dropped = dropped_more k h.front is h.dropped; left = h.left }

none_dropped : (P : List Kind → Type 0) {ks : List Kind} → P ks → Dropping P ks
none_dropped P {ks} h = record { front = []; rest = ks; kinds = refl; dropped = refl; left = h }

-- a token of a pair, after this part
module _ (p : Profile) (ps : List Pair) (name : List ℕ) (items : List Item) {ks : List Kind} {gs : List Game} where
  bracket_step : (k : Kind) → items ≡ [] → refusal p (at AfterValue ps name items) k ≡ None
      → After p (next (at AfterValue ps name items) k) ks gs → Bracket_left p ps (k ∷ ks) gs
  unfolding refusal
  bracket_step tokens.comment_open none free after = one_dropped _ refl (after none)
  bracket_step (tokens.word s) none free after = one_dropped _ refl (after none)
  bracket_step tokens.comment_close none free after = one_dropped _ refl (after none)
  bracket_step tokens.right_bracket none free after = none_dropped _ (record { behind = ks; kinds = refl; tags = after none })
  bracket_step _ none free after = absurd (none-some _ (sym free))

  value_given : (s : List ℕ) → refusal p (at AfterName ps name items) (tokens.str s) ≡ None
      → Bracket_left p (insert_pair (record { name = name; value = s }) ps) ks gs → Value_left p ps name (tokens.str s ∷ ks) gs
  value_given s free h =
      let e = sym (value_refusal p _ s refl) ∙ free in
      let f = rest_passed (bytes_eq name _ && not _) BadResult e in
      let is_position = test_failed (bytes_eq name _ && is_some _) (BadFen _) _ f in
      let short = test_failed _ TagLineTooLong None (rest_passed (bytes_eq name _ && is_some _) (BadFen _) f) in
      none_dropped _ (record {
        value = s;
        behind = ks;
        kinds = refl;
        room = ltb-false 249 _ short;
        result = search (rules, not-false, forced, test_failed, bytes_eq-Decides);
        fen = λ is. position_is _ (forced (bytes_eq name _) is_position ((bytes_eq-Decides name _).1 is));
        bracket = h;
      })

  value_step : (k : Kind) → items ≡ [] → refusal p (at AfterName ps name items) k ≡ None
      → After p (next (at AfterName ps name items) k) ks gs → Value_left p ps name (k ∷ ks) gs
  unfolding refusal
  value_step k none free after = search (rules, one_dropped, value_given, none-some)

  name_given : (s : List ℕ) → refusal p (at AfterLeftBracket ps name items) (tokens.symbol s) ≡ None
      → Value_left p ps s ks gs → Name_left p ps (tokens.symbol s ∷ ks) gs
  name_given s free h =
      let e = sym (name_refusal p (at _ ps name items) s refl) ∙ free in
      let f = rest_passed (not (list_all in_name s)) BadTagName e in
      let g = rest_passed (nat_lt 249 (length s)) TagLineTooLong (rest_passed (has_pair ps s) DuplicateTag f) in
      none_dropped _ (record {
        name = s;
        behind = ks;
        kinds = refl;
        fresh = test_failed _ DuplicateTag _ f;
        is_name = not-false _ (test_failed _ BadTagName _ e);
        full = λ is. is_full _ (test_failed _ ReducedFen None g) ((bytes_eq-Decides s _).1 is);
        value = h;
      })

  name_step : {k : Kind} → items ≡ [] → refusal p (at AfterLeftBracket ps name items) k ≡ None
      → After p (next (at AfterLeftBracket ps name items) k) ks gs → Name_left p ps (k ∷ ks) gs
  unfolding refusal
  name_step none free after = search (rules, none-some, one_dropped, name_given)

pair_step : (p : Profile) {ps : List Pair} {ks : List Kind} {gs : List Game} → nat_le p.tags (length ps) ≡ false → Name_left p ps ks gs
    → (t : Tags_left p ps (tokens.left_bracket ∷ ks) gs) × (t.given ≡ [] → ⊥)
pair_step p {ps} {ks} free dn =
    let n = dn.left in
    let dv = n.value in
    let v = dv.left in
    let db = v.bracket in
    let b = db.left in
    let t = b.tags in
    let xs = dn.front in
    let ys = dv.front in
    let zs = db.front in
    let q : Pair = record { name = n.name; value = v.value } in
    let whole : ks ≡ xs ++ tokens.symbol n.name ∷ (ys ++ tokens.str v.value ∷ (zs ++ tokens.right_bracket ∷ (t.tags ++ t.behind))) = search rules in (
      record {
        tags =
            (tokens.left_bracket ∷ (xs ++ tokens.symbol n.name ∷ (ys ++ tokens.str v.value ∷ (zs ++ tokens.right_bracket ∷ [])))) ++ t.tags;
        given = q ∷ t.given;
        behind = t.behind;
        kinds = (rw whole (simp append_assoc));
        pairs = next_pair _ t.tags q t.given (pair xs ys zs _ _ dn.dropped dv.dropped db.dropped) t.pairs;
        takes = search (rules, leb-false);
        set_up = t.set_up;
        text = t.text;
      },
      λ e. absurd (cc),
    )

no_pair_step : {p : Profile} {ps : List Pair} {items : List Item} {ks : List Kind} {gs : List Game}
    → items ≡ [] → IsSetUp ps → Text_left p ps items ks gs → Tags_left p ps ks gs
no_pair_step {ks} none set_up h = grind (arith, common_steps, no_pair)

is_set_up : {o : Option (List ℕ)} {fen : Bool}
    → (bytes_eq (unwrap_or o []) (codes "1") && not fen) ≡ false → o ≡ Some (codes "1") → fen ≡ true
is_set_up h e = grind (arith, not-false)

tags_text : (p : Profile) (ps : List Pair) (name : List ℕ) (items : List Item) (k : Kind) {ks : List Kind} {gs : List Game}
    → items ≡ [] → IsTrue (is_textual k) → refusal p (at AfterTags ps name items) k ≡ None → is_end k ≡ false
    → After p (next (at AfterTags ps name items) k) ks gs → Tags_left p ps (k ∷ ks) gs
tags_text p ps name items k none is free end after =
    let e = sym (after_tags p (at AfterTags ps name items) k is) ∙ free in
    let lacks = lacks_fen ps in
    no_pair_step none (is_set_up (test_failed lacks SetUpWithoutFen _ e))
    (text_step p ps name items k (rest_passed lacks SetUpWithoutFen e) end (rw (leads_after_tags (at AfterTags ps name items) k is) at after))

tags_step : {p : Profile} {ps : List Pair} (name : List ℕ) {items : List Item} {k : Kind} {ks : List Kind} {gs : List Game} → items ≡ []
    → refusal p (at AfterTags ps name items) k ≡ None → is_end k ≡ false
    → After p (next (at AfterTags ps name items) k) ks gs → Tags_left p ps (k ∷ ks) gs
unfolding refusal
tags_step name none free end after = search (rules, false≢true, none-some, at, test_failed, open_refusal, pair_step, tags_text)

-- Games.
game_drops : {p : Profile} (k : Kind) {ks : List Kind} {g : Game} → IsTrue (is_comment k) → SpellsGame p ks g → SpellsGame p (k ∷ ks) g
game_drops k is h = record {
  before = k ∷ h.before;
  tags = h.tags;
  text = h.text;
  last = h.last;
  given = h.given;
  tokens = cc;
  dropped = dropped_more k h.before is h.dropped;
  pairs = h.pairs;
  keeps = h.keeps;
  sorted = h.sorted;
  set_up = h.set_up;
  bare = h.bare;
  items = h.items;
  marker = h.marker;
  result = h.result;
}

games_drop : {p : Profile} {k : Kind} {ks : List Kind} {gs : List Game}
    → IsTrue (is_comment k) → SpellsGames p ks gs → SpellsGames p (k ∷ ks) gs
games_drop {k} is (no_game ks are) = no_game (k ∷ ks) (dropped_more k ks is are)
games_drop {k} is (next_game ks ls g gs first others) = next_game (k ∷ ks) ls g gs (game_drops k is first) others

outer_text : {p : Profile} {first : Parts} {l : Level} {ks : List Kind} {items : List Item}
    → Closes p first l [] ks items → SpellsText p first 0 l ks items
outer_text (outermost _ ks items text) = text

game_begins : {p : Profile} {ps : List Pair} {ks : List Kind} {gs : List Game} → ps ≡ []
    → (t : Tags_left p ps ks gs) → (t.given ≡ [] → BeginsBare t.text.text) → SpellsGames p ks gs
game_begins {p} {ps} none t bare =
    let x = t.text in
    let sorted = ap (λ qs. with_pairs qs t.given) none in
    let g : Game = record { pairs = with_pairs ps t.given; items = x.more; marker = x.marker } in
    let front = t.tags ++ (x.text ++ x.last ∷ []) in
    let e = t.kinds ∙ ap (λ js. t.tags ++ js) x.kinds ∙ simp append_assoc in
    let game : SpellsGame p front g =
    record {
      before = [];
      tags = t.tags;
      text = x.text;
      last = x.last;
      given = t.given;
      tokens = refl;
      dropped = refl;
      pairs = t.pairs;
      keeps = taken (rw none at t.takes);
      sorted = sorted;
      set_up = t.set_up;
      bare = bare;
      items = outer_text x.closes;
      marker = x.is_marker;
      result = x.result;
    } in
    rw e (subst (SpellsGames p _) (sym x.games) (next_game front _ g x.later game x.others))

bare_from : {k : Kind} {ks : List Kind} (text : List Kind) (last : Kind) (behind : List Kind)
    → IsFalse (is_comment k) → k ∷ ks ≡ text ++ last ∷ behind → BeginsBare text
bare_from [] last behind is e = tt
bare_from {k} (j ∷ js) last behind is e = let same : j ≡ k = cc in cc

between_text : (p : Profile) {ps : List Pair} (name : List ℕ) {items : List Item} (k : Kind) {ks : List Kind} {gs : List Game}
    → ps ≡ [] → items ≡ [] → IsTrue (is_textual k)
    → IsFalse (is_comment k) → refusal p (at Between ps name items) k ≡ None → is_end k ≡ false
    → After p (next (at Between ps name items) k) ks gs → SpellsGames p (k ∷ ks) gs
unfolding no_pair_step
between_text p {ps} name {items} k {ks} {gs} no_pairs none is bare free end after =
    let text = text_step p ps name items {ks = ks} {gs = gs} k
    (sym (between p (at Between ps name items) k is bare) ∙ free) end (rw (leads_between (at Between ps name items) k is bare) at after) in
    let t = no_pair_step none (subst IsSetUp (sym no_pairs) (λ e. absurd (cc))) text in
    game_begins no_pairs t (λ given. bare_from t.text.text t.text.last t.text.behind bare t.text.kinds)

between_step : {p : Profile} {ps : List Pair} (name : List ℕ) {items : List Item} (k : Kind) {ks : List Kind} {gs : List Game}
    → ps ≡ [] → items ≡ [] → refusal p (at Between ps name items) k ≡ None → is_end k ≡ false
    → After p (next (at Between ps name items) k) ks gs → SpellsGames p (k ∷ ks) gs
unfolding refusal
between_step name tokens.comment_open no_pairs none free end after = games_drop refl (after (no_pairs, none))
between_step name (tokens.word s) no_pairs none free end after = games_drop refl (after (no_pairs, none))
between_step name tokens.comment_close no_pairs none free end after = games_drop refl (after (no_pairs, none))
between_step {p} {ps} name {items} tokens.left_bracket no_pairs none free end after =
    let t = pair_step p (test_failed _ TooManyTags None (sym (open_between p (at Between ps name items)) ∙ free)) (after none) in
    game_begins no_pairs t.0 (λ e. absurd (t.1 e))
between_step name tokens.end no_pairs none free end after = absurd (false≢true (sym end))
between_step name (tokens.refused r) no_pairs none free end after = absurd (none-some _ (sym free))
between_step {p} name k no_pairs none free end after = between_text p name k no_pairs none refl refl free end after

step : (p : Profile) (stage : Stage) (ps : List Pair) (name : List ℕ) (items : List Item) (k : Kind) (ks : List Kind) (gs : List Game)
    → Fits stage ps items → refusal p (at stage ps name items) k ≡ None → is_end k ≡ false
    → After p (next (at stage ps name items) k) ks gs → Left p stage ps name items (k ∷ ks) gs
step p stage ps name items k ks gs fits free end after = search (rules, text_step, bracket_step, value_step, name_step, tags_step, between_step)

at_end : (p : Profile) (stage : Stage) (ps : List Pair) (name : List ℕ) (items : List Item)
    → refusal p (at stage ps name items) tokens.end ≡ None → Left p stage ps name items (tokens.end ∷ []) []
unfolding refusal
at_end p Between ps name items free = no_game [] refl
at_end p _ ps name items free = absurd (none-some _ (sym free))

left : (p : Profile) (part : Part) (ks : List Kind) (gs : List Game) → Runs p part ks gs → Fits part.stage part.pairs part.items
    → Left p part.stage part.pairs part.name part.items ks gs
left p _ _ _ (ends part free) fits = at_end p _ _ _ _ free
left p _ _ _ (goes part to k ks gs free end leads runs) fits = step p _ _ _ _ k ks gs fits free end (rw leads (left p to ks gs runs))
left p _ _ _ (finishes part k g ks gs free end leads runs) fits =
    step p _ _ _ _ k ks _ fits free end
    (rw leads (gs, refl, left p no_part ks gs runs (refl, refl)))

pub games_spelled : (p : Profile) (ks : List Kind) (gs : List Game) → Runs p no_part ks gs → SpellsGames p ks gs
games_spelled p ks gs runs = left p no_part ks gs runs (refl, refl)
