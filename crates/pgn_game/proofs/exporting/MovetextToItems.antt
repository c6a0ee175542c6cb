-- The movetext that is written of a game spells the same items again.
use Rattle.pgn_game.proofs.Words.{◌≡◌, ℕ, ◌+◌, ◌<◌, Bool, true, false, List, [], ◌∷◌, ◌++◌, refl, sym, ap, subst, ◌∙◌, append_assoc, codes, filter, fold, IsTrue, All-append, AllByRecursion, fold-append, IsSoundKind, CommentsClose, written, text_of_move, is_black_to_move, is_comment, Parts, Kind, Played, Item, Profile, Level, Levels, levels_after, back_to, depth, here, without_last, replayed, StandsFor, Names, SpellsText, no_more, token, move, variation, number, period, glyph, comment_open, word, comment_close, new_level, level_after_move, Placed, placed_from, is_main_move, tokens_from, tokens_at, arith, rules}
use Rattle.pgn_lexer.specs.Tokens as tokens
use Rattle.pgn_game.specs.games.Game as games
use Rattle.pgn_game.proofs.AllOfJoined.{all_front, all_behind}
use Rattle.pgn_game.proofs.putting.ItemsAppended.{placed-append, tokens_from-append}
use Rattle.pgn_game.proofs.exporting.PiecesToTokens.{IsWritable, AllShown, none_shown, next_shown, shown-append, single}
use Rattle.pgn_game.proofs.exporting.SpelledToSound.{GoesOn, plain}
use Rattle.pgn_game.proofs.exporting.MoveTextToMove.{ArePositions, MoveLaws, last_position, earlier_positions, plays_on, writable_move, names_again, number_kinds, number_shown, number_spells, number_writable, number_closes}

abbrev pub level_in : Level → List Level → Levels
level_in l around = record { current = l; around = around }

-- A token anywhere in movetext leaves the levels as they are, and is no move.
pub aside : {k : Kind} {item : List Item} (items : List Item) (first : Parts) (ls : Levels) → StandsFor k item
    → (fold levels_after ls (item ++ items) ≡ fold levels_after ls items)
    × (filter is_main_move (placed_from first ls (item ++ items)) ≡ filter is_main_move (placed_from first ls items))
aside items first ls h1 = search rules

-- movetext closes the variations that it opens
pub around_again : {p : Profile} {first : Parts} {deep : ℕ} {l : Level} {ks : List Kind} {items : List Item} → SpellsText p first deep l ks items
    → {around : List Level} → (fold levels_after (level_in l around) items).around ≡ around
around_again (no_more deep l) = refl
around_again {first} (token deep l k ks item items stands rest) {around} = cc ((aside items first _ stands).0, around_again rest {around = around})
around_again (move deep l s x ks items names rest) = around_again rest
around_again (variation deep l ks ls items more holds room inner rest) {around} =
    let at = level_in (new_level _) (l ∷ around) in
    ap (λ x. x.around) (fold-append _ at items _)
    ∙ ap (λ x. (fold levels_after (back_to x (fold levels_after at items)) more).around) (around_again inner) ∙ around_again rest

abbrev pub close_at : Parts → Levels → Placed
close_at first end = record { position = here first end; depth = depth end; item = games.close_variation }

pub placed_variation : {p : Profile} {first : Parts} (deep : ℕ) (l : Level) {ks : List Kind} {items : List Item} (more : List Item)
    → SpellsText p first (deep + 1) (new_level (without_last l.trail)) ks items → (around : List Level)
    → placed_from first (level_in (new_level (without_last l.trail)) (l ∷ around)) (items ++ games.close_variation ∷ more)
    ≡ placed_from first (level_in (new_level (without_last l.trail)) (l ∷ around)) items
    ++ (close_at first (fold levels_after (level_in (new_level (without_last l.trail)) (l ∷ around)) items)
    ∷ placed_from first (level_in l around) more)
placed_variation deep l more inner around = grind (arith, placed-append, around_again)

-- What is written in the place of tokens closes its comments if they do.
abbrev pub InPlaceOf : List Kind → List Kind → Type 0
InPlaceOf js ks =
    (c : Bool) (more then : List Kind) → ((d : Bool) → CommentsClose d more → CommentsClose d then)
    → CommentsClose c (ks ++ more) → CommentsClose c (js ++ then)

-- The kinds of these tokens, as they are put on lines, spell the items, in the place of the kinds
-- that did.
pub record Rewritten (p : Profile) (first : Parts) (deep : ℕ) (l : Level) (ks : List Kind) (items : List Item) (ts : List (List ℕ)) : Type 0 where
  pub kinds : List Kind
  pub spells : SpellsText p first deep l kinds items
  pub shown : AllShown kinds ts
  pub writable : AllByRecursion IsWritable kinds
  pub closes : InPlaceOf kinds ks

-- A token is left out: a number or a period.
abbrev IsLeftOut : Kind → Type 0
IsLeftOut k = (c : Bool) (more : List Kind) → CommentsClose c (k ∷ more) → CommentsClose c more

no_comment : (k : Kind) → GoesOn k → is_comment k ≡ false → IsLeftOut k
no_comment k on is c more h = search (rules, plain)

left_out : {p : Profile} {first : Parts} {deep : ℕ} {l : Level} {k : Kind} {ks : List Kind} {items : List Item} {ts : List (List ℕ)}
    → IsLeftOut k → Rewritten p first deep l ks items ts → Rewritten p first deep l (k ∷ ks) items ts
left_out out r = record {
  kinds = r.kinds;
  spells = r.spells;
  shown = r.shown;
  writable = r.writable;
  closes = λ c more then f h. r.closes c more then f (out c _ h);
}

-- A token is written as it was read.
abbrev Passes : Kind → Type 0
Passes k = (c : Bool) (more then : List Kind) → ((d : Bool) → CommentsClose d more → CommentsClose d then)
    → CommentsClose c (k ∷ more) → CommentsClose c (k ∷ then)

passes : (k : Kind) → Passes k
passes tokens.comment_open false more then f h = f true h
passes (tokens.word s) false more then f h = h
passes (tokens.word s) true more then f h = f true h
passes tokens.comment_close false more then f h = h
passes tokens.comment_close true more then f h = f false h
passes (tokens.refused r) true more then f h = tt
passes _ false more then f h = f false h
passes _ true more then f h = h

written_again : {p : Profile} {first : Parts} {deep : ℕ} {l : Level} {k : Kind} {ks : List Kind} {item items : List Item} {ts : List (List ℕ)}
    → StandsFor k item → IsWritable k → Rewritten p first deep l ks items ts
    → Rewritten p first deep l (k ∷ ks) (item ++ items) (written k ∷ ts)
written_again {deep} {l} {k} {item} {items} {ts} stands writable r = record {
  kinds = k ∷ r.kinds;
  spells = token deep l k _ item items stands r.spells;
  shown = next_shown (k ∷ []) r.kinds _ ts (single k) r.shown;
  writable = (writable, r.writable);
  closes = λ c more then f h. passes k c _ _ (λ d. r.closes d more then f) h;
}

variation_closes : (js ks ls ms : List Kind) → InPlaceOf js ks → InPlaceOf ms ls
    → InPlaceOf (tokens.left_paren ∷ (js ++ tokens.right_paren ∷ ms)) (tokens.left_paren ∷ (ks ++ tokens.right_paren ∷ ls))
variation_closes js ks ls ms inner rest true more then f h = absurd h
variation_closes js ks ls ms inner rest false more then f h =
    rw (append_assoc js (tokens.right_paren ∷ ms) then)
    (inner false (tokens.right_paren ∷ (ls ++ more)) _ behind
    (rw (append_assoc ks (tokens.right_paren ∷ ls) more) at h))
  where
    behind : (d : Bool) → CommentsClose d (tokens.right_paren ∷ (ls ++ more)) → CommentsClose d (tokens.right_paren ∷ (ms ++ then))
    behind false k = rest false more then f k
    behind true k = absurd k

variation_again : {p : Profile} {first : Parts} {deep : ℕ} (l : Level) {ks ls : List Kind} {items : List Item}
    (more : List Item) {ts : List (List ℕ)} (us : List (List ℕ)) → IsTrue l.has_own_move → deep < p.depth
    → Rewritten p first (deep + 1) (new_level (without_last l.trail)) ks items ts → Rewritten p first deep l ls more us
    → Rewritten p first deep l (tokens.left_paren ∷ (ks ++ tokens.right_paren ∷ ls))
    (games.open_variation ∷ (items ++ games.close_variation ∷ more))
    (codes "(" ∷ (ts ++ codes ")" ∷ us))
variation_again {deep} l {ks} {ls} {items} more us holds room a b = record {
  kinds = tokens.left_paren ∷ (a.kinds ++ tokens.right_paren ∷ b.kinds);
  spells = variation deep l _ _ items more holds room a.spells b.spells;
  shown = next_shown _ _ _ _ (single _) (shown-append a.shown (next_shown _ _ _ us (single _) b.shown));
  writable = (tt, All-append IsWritable a.kinds (tokens.right_paren ∷ b.kinds) a.writable (tt, b.writable));
  closes = variation_closes a.kinds ks ls b.kinds a.closes b.closes;
}

tokens_of_variation : {p : Profile} {first : Parts} (deep : ℕ) (l : Level) {ks : List Kind} {items : List Item} (more : List Item)
    → SpellsText p first (deep + 1) (new_level (without_last l.trail)) ks items → (around : List Level) (b : Bool)
    → tokens_from b (placed_from first (level_in l around) (games.open_variation ∷ (items ++ games.close_variation ∷ more)))
    ≡ codes "(" ∷ (tokens_from false (placed_from first (level_in (new_level (without_last l.trail)) (l ∷ around)) items)
    ++ codes ")" ∷ tokens_from false (placed_from first (level_in l around) more))
tokens_of_variation deep l more inner around b = grind (arith, tokens_from-append, placed_variation)

module _ (laws : MoveLaws) where
  move_again : (p : Profile) {first : Parts} {deep : ℕ} (l : Level) (s : List ℕ)
      (x : Played) {ks : List Kind} {items : List Item} (ts : List (List ℕ)) (b : Bool)
      → Names (replayed first l.trail) s x → ArePositions first l.trail → Rewritten p first deep (level_after_move x.mv l.trail) ks items ts
      → Rewritten p first deep l (tokens.symbol s ∷ ks) (games.move x.mv ∷ items) (tokens_at b (replayed first l.trail) (games.move x.mv) ++ ts)
  move_again p {first} {deep} l s x {ks} {items} ts b names h r =
      let at = replayed first l.trail in
      let text = text_of_move at x.mv in
      let is_black = is_black_to_move at in
      let here = last_position first l.trail h in
      record {
        kinds = number_kinds b is_black at.full ++ tokens.symbol text ∷ r.kinds;
        spells =
            number_spells laws at l b is_black here
            (move deep l text x r.kinds items (names_again laws at s x here names) r.spells);
        shown = (rw (append_assoc _ _ ts) (number_shown b is_black at.full
            (next_shown _ _ text ts (single _) r.shown)));
        writable = search (rules, All-append, number_writable, writable_move);
        closes = closes r b is_black at.full text;
      }
    where
      closes : (r : Rewritten p first deep (level_after_move x.mv l.trail) ks items ts) (b is_black : Bool) (n : ℕ) (text : List ℕ)
          → InPlaceOf (number_kinds b is_black n ++ tokens.symbol text ∷ r.kinds)
          (tokens.symbol s ∷ ks)
      closes r b is_black n text true more then f h = absurd h
      closes r b is_black n text false more then f h =
          let kinds = number_kinds b is_black n in
          rw (append_assoc kinds (tokens.symbol text ∷ r.kinds) then) (number_closes b is_black n
          (tokens.symbol text ∷ (r.kinds ++ then)) (r.closes false more then f h))

  pub rewritten : {p : Profile} {first : Parts} {deep : ℕ} {l : Level} {ks : List Kind} {items : List Item} → SpellsText p first deep l ks items
      → ArePositions first l.trail → AllByRecursion IsSoundKind ks → (around : List Level) (b : Bool)
      → Rewritten p first deep l ks items (tokens_from b (placed_from first (level_in l around) items))
  rewritten (no_more deep l) h sound around b =
      record { kinds = []; spells = no_more deep l; shown = none_shown; writable = tt; closes = λ c more then f k. f c k }
  rewritten (token deep l _ ks _ items (number s is) rest) h sound around b =
      left_out (no_comment (tokens.symbol s) tt refl) (rewritten rest h sound.1 around b)
  rewritten (token deep l _ ks _ items period rest) h sound around b = left_out (no_comment tokens.period tt refl) (rewritten rest h sound.1 around b)
  rewritten (token deep l _ ks _ items (glyph n) rest) h sound around b = written_again (glyph n) sound.0 (rewritten rest h sound.1 around false)
  rewritten (token deep l _ ks _ items comment_open rest) h sound around b = written_again comment_open tt (rewritten rest h sound.1 around false)
  rewritten (token deep l _ ks _ items (word s) rest) h sound around b = written_again (word s) sound.0 (rewritten rest h sound.1 around false)
  rewritten (token deep l _ ks _ items comment_close rest) h sound around b = written_again comment_close tt (rewritten rest h sound.1 around false)
  rewritten {p} {first} (move deep l s x ks items names rest) h sound around b =
      search (rules, move_again, (rewritten rest (plays_on laws first _ s x names h) sound.1 around true))
  rewritten {p} {first} (variation deep l ks ls items more holds room inner rest) h sound around b =
      let sound_in = all_front IsSoundKind ks (tokens.right_paren ∷ ls) sound.1 in
      subst (Rewritten p first deep l _ _) (sym (tokens_of_variation deep l more inner around b))
      (variation_again l more _ holds room (rewritten inner (earlier_positions first _ h) sound_in _ false)
      (rewritten rest h (all_behind IsSoundKind ks (tokens.right_paren ∷ ls) sound.1).1 around false))
