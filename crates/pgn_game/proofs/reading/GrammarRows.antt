-- Worked rows of the grammar: what some inputs spell, and what they don't.
use Rattle.pgn_game.proofs.Words.{◌≡◌, ℕ, ◌<◌, List, [], ◌∷◌, ◌++◌, Kind, refl, arith, codes, tokens_of, RisesTo, Played, Full, Profile, counts_as, Pair, Item, Game, first_position, refusal, Spells, SpellsText, Names, pair, no_pair, next_pair, no_game, next_game, no_more, token, move, variation, number, period, comment_open, word, comment_close, new_level, level_after_move, rules, inl}
use Rattle.pgn_lexer.specs.Tokens as tokens
use Rattle.pgn_game.specs.games.Game as games
use Rattle.pgn_game.proofs.reading.RunsToEnd.{kinds, runs_as_read}
use Rattle.pgn_game.proofs.reading.GrammarToReading.{games_run}

abbrev pub plain : Profile
plain = record { tags = 64; depth = 32; mode = Full; missing_result = counts_as (codes "*") }

abbrev pub game : List Pair → List Item → Game
game ps items = record { pairs = ps; items = items; marker = codes "*" }

no_input : Spells plain (tokens_of []) []
no_input = no_game [] refl

abbrev one_pair : Pair
one_pair = record { name = codes "A"; value = codes "1" }

-- a comment of one word
abbrev remark : List ℕ → List Kind
remark s = tokens.comment_open ∷ tokens.word s ∷ tokens.comment_close ∷ []

-- comments before a game, in a pair and behind the last game are dropped; those in movetext stay
comments : Spells plain (tokens_of (codes "{a}[A {b} \"1\"{c}] 1. {d} *{e}"))
    (game (one_pair ∷ []) (games.comment_open ∷ games.word (codes "d") ∷ games.comment_close ∷ []) ∷ [])
comments =
    let a = remark (codes "a") in
    let b = remark (codes "b") in
    let c = remark (codes "c") in
    let tags : List Kind =
    tokens.left_bracket ∷ tokens.symbol (codes "A") ∷ (b ++ tokens.str (codes "1") ∷ (c ++ tokens.right_bracket ∷ [])) in
    let text : List Kind = tokens.symbol (codes "1") ∷ tokens.period ∷ remark (codes "d") in
    next_game (a ++ (tags ++ (text ++ tokens.asterisk ∷ []))) (remark (codes "e") ++ tokens.end ∷ []) _ [] (record {
      before = a;
      tags = tags;
      text = text;
      last = tokens.asterisk;
      given = one_pair ∷ [];
      tokens = refl;
      dropped = refl;
      pairs = next_pair _ [] one_pair [] (pair [] b c (codes "A") (codes "1") refl refl refl) no_pair;
      keeps = record { count = omega arith; each = search rules; distinct = (refl, tt) };
      sorted = refl;
      set_up = λ e. absurd (cc);
      bare = λ e. absurd (cc);
      items =
          let l = new_level [] in
          token 0 l _ _ [] _ (number (codes "1") refl) (token 0 l _ _ [] _ period
          (token 0 l _ _ (games.comment_open ∷ []) _ comment_open (token 0 l _ _ (games.word (codes "d") ∷ []) _
          (word (codes "d")) (token 0 l _ _ (games.comment_close ∷ []) _ comment_close (no_more 0 l)))));
      marker = refl;
      result = refl;
    }) (no_game (remark (codes "e")) refl)

-- a variation replaces the move before it, so its first move is played where that one was
replaces : {p : Profile} (s t : List ℕ) (played other : Played) → 0 < p.depth → Names first_position s played → Names first_position t other
    → SpellsText p first_position 0 (new_level []) (tokens.symbol s ∷ tokens.left_paren ∷ tokens.symbol t ∷ tokens.right_paren ∷ [])
    (games.move played.mv ∷ games.open_variation ∷ games.move other.mv ∷ games.close_variation ∷ [])
replaces s t played other room one two =
    let first = new_level [] in
    let behind = level_after_move played.mv [] in
    move 0 first s played _ _ one
    (variation 0 behind (tokens.symbol t ∷ []) [] (games.move other.mv ∷ []) [] refl room
    (move 1 first t other [] [] two (no_more 1 (level_after_move other.mv []))) (no_more 0 behind))

-- Nothing else is spelled: a comment that begins movetext without pairs is dropped, and a marker
-- that differs from a missing Result spells nothing.
has_no_item : {x : Item} {xs : List Item} → game [] [] ∷ [] ≡ game [] (x ∷ xs) ∷ [] → ⊥
has_no_item e = search rules

comment_is_dropped : Spells plain (tokens_of (codes ";\n*")) (game [] (games.comment_open ∷ games.comment_close ∷ []) ∷ []) → ⊥
unfolding refusal
comment_is_dropped h =
    let rises : RisesTo (tokens_of (codes ";\n*")) = (λ x. x, inl (omega arith), (λ x. x, inl (omega arith), (λ x. x, inl (omega arith), tt))) in
    let was_read = (runs_as_read plain (tokens_of (codes ";\n*")) _ rises).0 (games_run plain (kinds (tokens_of (codes ";\n*"))) _ h) in
    has_no_item was_read.1

marker_differs : (gs : List Game) → Spells plain (tokens_of (codes "1-0")) gs → ⊥
unfolding refusal
marker_differs gs h = search (rules, games_run, kinds, runs_as_read)
