-- From a token of the bytes that were read to what is read of the source.
use Rattle.pgn_game.proofs.Words.{ahead_of, ◌≡◌, ℕ, ◌+◌, ◌-◌, ◌^◌, ◌<◌, ◌≤◌, ◌==◌, true, false, List, ◌++◌, length, take, drop, Option, None, Some, Ok, Err, refl, sym, ap, subst, ◌∙◌, arith, append-nil, Consumes-nil, append_assoc, length-append, length-take, take-append-drop, take-take, drop-take, eqb-true, Token, Fault, InputTooLong, Profile, StandsAfter, Standing, first, within_limit, AreNext, HasRead, rules}
use Rattle.pgn_game.specs.declared.item.Item.{Item as CodeItem}
use Rattle.pgn_game.specs.public.GamesCalls.{HasReadWithin}
use Rattle.pgn_game.specs.public.ItemsCalls.{Current, Items, games_of_items}
use Rattle.pgn_game.specs.steps.ItemsSteps.{AfterBuffered, AfterToken, AreGoing, FillsItems, CanGoOn, LastIs, ReadsToken, TakesBuffered, at_token, reads_as, too_long}
use Rattle.pgn_game.specs.steps.GameState.{Writing}
use Rattle.pgn_game.proofs.stepping.AcceptedToConverter.{read_as}
use Rattle.pgn_game.proofs.stepping.BytesWithinLimit.{front_within}
use Rattle.pgn_game.proofs.stepping.ReadsInText.{decided_by_used}

pub empty_if : (n : ℕ) → true ≡ (n == 0) → n ≡ 0
empty_if n h = eqb-true n 0 (sym h)

pub some_if : (n : ℕ) → false ≡ (n == 0) → 0 < n
some_if n h = search rules

-- bytes are left of an earlier read
pub some_left : (left : Option (List ℕ)) (i : Items) → 0 < length i.unused → FillsItems left left i i
some_left left i some = search (rules, Consumes-nil, append-nil)

-- the same items with a fault
abbrev pub failed : Items → Fault → Items
failed i f = record i { has_read_all = true; is_finished = false; fault = Some f }

module _ (old : Items) (going : AreGoing old) (count : old.lexer.count ≤ 2 ^ 62) where
  abbrev room : ℕ
  room = 2 ^ 62 - old.lexer.count

  abbrev piece : List ℕ
  piece = take room old.unused

  module _ (p : Profile) (u : List ℕ) (given : List Token) (reads : HasReadWithin p u (games_of_items old) given) where
    place : length reads.used + room ≡ 2 ^ 62
    place = omega (arith, count, reads.stands.lexer.count)

    has_read : HasRead p (reads_as old.lexer old.current) given
    has_read = read_as reads.stands.has_read refl refl refl tt

    within_is : within_limit u ≡ reads.used ++ piece
    within_is = ap within_limit reads.bytes ∙ front_within reads.used old.unused room place

  -- the byte at place 2^62 was read
  pub stops_too_long : 0 < length old.unused → length piece ≡ 0
      → TakesBuffered old (failed old (record { at = 2 ^ 62; reason = InputTooLong }))
      (Err (record { at = 2 ^ 62; reason = InputTooLong }))
  stops_too_long some none =
      let full : room ≡ 0 = omega (arith, some, none, length-take room old.unused) in
      record {
        after = λ p u given reads.
            let end : length reads.used ≡ 2 ^ 62 = omega (arith, full, place p u given reads) in
            let none : 2 ^ 62 - length reads.used ≡ 0 = omega (arith, end) in
            too_long reads.used old.unused reads.bytes end some
            (decided_by_used reads.used old.unused given (ap (λ (n : ℕ). take n old.unused) none) reads.decided);
        goes = (refl, going.last, going.pending);
        read_all = tt;
        short = count;
        nearer = tt;
      }

  module _ (lexer : Standing) (current : Current) (used : ℕ) where
    abbrev new : Option Fault → Items
    new fault = record {
      lexer = lexer;
      current = current;
      unused = drop used old.unused;
      has_read_all = old.has_read_all;
      is_finished = old.is_finished;
      fault = fault;
    }

    short_after : used ≤ length piece → lexer.count ≡ old.lexer.count + used → lexer.count ≤ 2 ^ 62
    short_after within is = omega (arith, within, is, count, length-take room old.unused)

    goes_on : (item : Option CodeItem) (p : Profile) (given tokens : List Token) → AfterToken p given tokens lexer current item
        → HasRead p (reads_as lexer current) tokens
    goes_on item p given tokens after = search rules

    module _ (some : 0 < length piece) where
      stands_before : (p : Profile) (u : List ℕ) (given : List Token) (reads : HasReadWithin p u (games_of_items old) given)
          → StandsAfter old.lexer reads.used (first piece) given
      stands_before p u given reads = search rules

      module _ (item : Option CodeItem) (reads_token : ReadsToken old.lexer old.current piece lexer current used (Ok item)) where
        within : used ≤ room
        within = omega (arith, reads_token.within, length-take room old.unused)

        front : take used piece ≡ take used old.unused
        front = take-take used room old.unused within

        rest : drop used piece ≡ take (room - used) (drop used old.unused)
        rest =
            let sum : room ≡ used + (room - used) = omega (arith, within) in search (rules, drop-take)

        left_is : (p : Profile) (u : List ℕ) (given : List Token) (reads : HasReadWithin p u (games_of_items old) given)
            → drop used piece ≡ ahead_of (reads.used ++ take used old.unused) (drop used old.unused)
        left_is p u given reads = search (rules, place, length-take, length-append, rest)

        reads_to : (p : Profile) (u : List ℕ) (given : List Token) → HasReadWithin p u (games_of_items old) given → AfterBuffered p u given (new None) (Ok item)
        reads_to p u given reads =
            let after = reads_token.after p reads.used given (stands_before p u given reads) (has_read p u given reads) in
            let tokens = after.0 in
            let is_decided = rw front at after.2 in (
              tokens,
              record {
                used = reads.used ++ take used old.unused;
                bytes = search (rules, take-append-drop, append_assoc);
                stands = record {
                  known = λ silent. reads.stands.known (ap (λ (w : Writing). w.is_silent) (sym reads_token.writing) ∙ silent);
                  lexer = rw (left_is p u given reads) at (rw front at after.1);
                  has_read = read_as (goes_on item p given tokens after.3) refl refl refl tt;
                };
                decided = rw (left_is p u given reads) at is_decided;
                not_finished = going.not_finished;
              },
              after.3,
              after.4,
            )

        goes_to : (o : Option CodeItem) → LastIs {E = Fault} current (Ok o) → CanGoOn (new None) (Ok o)
        goes_to o last = search rules

        pub takes_on : TakesBuffered old (new old.fault) (Ok item)
        takes_on = subst (λ (fault : Option Fault). TakesBuffered old (new fault) (Ok item)) (sym going.no_fault) (record {
          after = reads_to;
          goes = goes_to item reads_token.last;
          read_all = refl;
          short = short_after reads_token.within reads_token.count;
          nearer = omega (arith, reads_token.nearer, reads_token.count);
        })

      pub takes_fault : (f : Fault) → ReadsToken old.lexer old.current piece lexer current used (Err f)
          → TakesBuffered old (failed (new None) f) (Err f)
      takes_fault f reads_token = record {
        after = λ p u given reads.
            let after = reads_token.after p reads.used given (stands_before p u given reads) (has_read p u given reads) in
            at_token f after.0 after.1 (subst (λ (s : List ℕ). AreNext s after.0) (sym (within_is p u given reads)) after.2);
        goes = (refl, reads_token.last.0, reads_token.last.1);
        read_all = tt;
        short = short_after reads_token.within reads_token.count;
        nearer = tt;
      }
