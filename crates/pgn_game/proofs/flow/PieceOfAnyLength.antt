-- What `feed_piece` does: of a piece of any length the bytes before place 2^62 are read.
use Rattle.pgn_game.specs.declared.converter.Fed.{Fed}
use Rattle.pgn_game.specs.declared.converter.Fed.TheVariants.{All, Game as GameEnd}
use Rattle.pgn_game.proofs.Words.{◌≡◌, ℕ, ◌+◌, ◌-◌, ◌≤◌, ◌<◌, ◌^◌, inl, inr, Bool, true, false, List, [], length, take, drop, Option, None, Some, Result, Ok, Err, refl, sym, ap, ◌∙◌, arith, le_refl, length-drop, length-take, Token, Fault, InputTooLong, Converter, IsGoing, within_limit, rules}
use Rattle.pgn_game.specs.steps.Flow.{At, FeedsPiece, Reached, ReadsIn, ReadsNothing, ReadsOn, Start, so_far}
use Rattle.pgn_game.proofs.stepping.ReadsInText.{between, front_ahead}
use Rattle.pgn_game.proofs.stepping.StepsAtEnd.{let_go}

abbrev pub past_limit : Fault
past_limit = record { at = 2 ^ 62; reason = InputTooLong }

-- from the call on no game is just finished
abbrev pub let_go_of : Converter → Converter
let_go_of c = record c { just_finished = None }

at_start : (start : Start) (s : List ℕ) (c : Converter) (tokens : List Token) (o : Option (List ℕ)) → At start (so_far s) c tokens o
    → At start (so_far s) (let_go_of c) tokens o
at_start start s c tokens o here = search (rules, let_go)

reads_nothing : (old : Converter) (piece : List ℕ) (new : Converter) (result : Result Fed Fault) → 0 < length piece → result ≡ Err past_limit → new.reading ≡ old.reading
    → ReadsNothing old piece new result
reads_nothing old piece new result some is same = search rules

module _ (old : Converter) (piece : List ℕ) (n : ℕ) (room : old.lexer.count + n ≡ 2 ^ 62) where
  -- ---- no byte is before place 2^62

  pub feeds_none : piece ≡ [] → IsGoing old → (o : Option (List ℕ)) (x : ℕ) → FeedsPiece old piece (let_go_of old) (Ok All) (between o o x x)
  feeds_none is going o x =
      rw is (record {
        reads = λ start s tokens ahead here. (tokens, at_start start (within_limit s) old tokens o here);
        none = λ none. ((refl, refl), refl);
        goes = search (rules, le_refl);
      })

  size : (s : List ℕ) → drop old.lexer.count s ≡ piece → length piece ≡ length s - old.lexer.count
  size s ahead = ap (length {A = ℕ}) (sym ahead) ∙ length-drop _ s

  pub feeds_past : n ≡ 0 → 0 < length piece → IsGoing old → (o : Option (List ℕ)) (x : ℕ)
      → FeedsPiece old piece (record old { just_finished = None; fault = Some past_limit }) (Err past_limit) (between o o x x)
  feeds_past none some going o x =
      record {
        reads = λ start s tokens ahead here.
            inr (record {
              fault = refl;
              long = omega (arith, room, none, some, size s ahead);
              now = let_go_of old;
              tokens = tokens;
              reached = at_start start (within_limit s) old tokens o here;
              count = omega (arith, room, none);
              none_just_finished = refl;
              games = refl;
              same = refl;
            });
        none = λ empty. (reads_nothing old piece (record old { just_finished = None; fault = Some past_limit }) (Err past_limit) some refl refl, refl);
        goes = search (rules, le_refl);
      }

  -- ---- some bytes are, and are read

  module _ (some : 0 < length (take n piece)) (few : old.games < 2 ^ 64) (new : Converter) (used : ℕ) (a c : Option (List ℕ)) (x y : ℕ) where
    not_none : {A : Type 0} → take (2 ^ 62 - old.lexer.count) piece ≡ [] → A
    not_none none = search rules

    reached : (result : Result Bool Fault) → ReadsOn (let_go_of old) (Some (take n piece)) new result (between a c x y) → (start : Start) (s : List ℕ) (tokens : List Token)
        → drop old.lexer.count s ≡ piece → At start (so_far (within_limit s)) old tokens a → Reached start (so_far (within_limit s)) new result c
    reached result reads start s tokens ahead here = search (rules, front_ahead, at_start)

    pub feeds_fault : (f : Fault) → ReadsIn (let_go_of old) (take n piece) new used (Err f) (between a c x y) → FeedsPiece old piece new (Err f) (between a c x y)
    feeds_fault f steps =
        let goes = steps.goes in
        record {
          reads = λ start s tokens ahead here. inl (reached (Err f) steps.reads start s tokens ahead here);
          none = not_none;
          goes = search (rules, length-take);
        }

    pub feeds_game : ReadsIn (let_go_of old) (take n piece) new used (Ok true) (between a c x y) → FeedsPiece old piece new (Ok (GameEnd used)) (between a c x y)
    feeds_game steps =
        let goes = steps.goes in
        record {
          reads = reached (Ok true) steps.reads;
          none = not_none;
          goes = search (rules, length-take);
        }

    module _ (steps : ReadsIn (let_go_of old) (take n piece) new used (Ok false) (between a c x y)) (all : used ≡ length (take n piece)) where
      pub feeds_all : length piece ≤ n → FeedsPiece old piece new (Ok All) (between a c x y)
      feeds_all whole =
          let goes = steps.goes in
          record {
            reads = reached (Ok false) steps.reads;
            none = not_none;
            goes = search (rules, le_refl, length-take);
          }

      pub feeds_to_limit : n < length piece → FeedsPiece old piece (record new { fault = Some past_limit }) (Err past_limit) (between a c x y)
      feeds_to_limit more =
          let goes = steps.goes in
          record {
            reads = λ start s tokens ahead here.
                let there = reached (Ok false) steps.reads start s tokens ahead here in
                inr (record {
                  fault = refl;
                  long = omega (arith, room, more, size s ahead);
                  now = new;
                  tokens = there.0;
                  reached = there.1;
                  count = omega (arith, goes.count, all, more, room, length-take n piece);
                  none_just_finished = goes.none_else;
                  games = refl;
                  same = refl;
                });
            none = not_none;
            goes = search (rules, length-take);
          }
