-- Worked rows of the most pairs that are tried for one token of an input.
use Rattle.worked_rows.proofs.Words.{◌≡◌, ℕ, true, false, refl, sym, ◌∙◌, List, arith, codes, take, Parts, squares, agreeing, tokens_of, NotAMove, IllegalMove, first_position, position_of, move_of, play, refusal, read}
use Rattle.std.specs.Prelude.{drop}
use Rattle.chess_rules.specs.Legal.{is_check}
use Rattle.chess_text.specs.San.{MarkPairs}
use Rattle.pgn_lexer.specs.Tokens.{symbol}
use Rattle.pgn_game.specs.public.Tried.{Costs}
use Rattle.pgn_game.specs.public.MostTried.{MostTried, Tries, none, refused, passes}
use Rattle.pgn_game.specs.public.CheckedConversion.{MostOfBoth}
use Rattle.worked_rows.proofs.CheckedRows.{twice}
use Rattle.worked_rows.proofs.WorkedRows.{plain, reduced}

-- a move that gives no check has no pairs for its mark
quiet : (q : Parts) (n : ℕ) → is_check q ≡ false → MarkPairs q n n
quiet q n calm =
    record {
      rises = omega arith;
      most = omega arith;
      no_check = λ is. refl;
      check = λ is some. differ is;
      mate = λ is none. differ is;
    }
  where
    differ : {P : Type 0} → is_check q ≡ true → P
    differ is = let h : false ≡ true = sym calm ∙ is in absurd (cc)

-- a marker tries no pair
no_move : MostTried false plain (tokens_of (codes "*")) 0
unfolding refusal Costs move_of play position_of first_position squares agreeing
no_move =
    passes _ _ _ 0 0 refl (record { found = 0; finds = refl; writes = refl })
    (passes _ _ _ 0 0 refl (record { found = 0; finds = refl; writes = refl }) (none _))

-- Three pawns see e4, and its SAN needs no pair. Neither do the number, the period, and a text that
-- is no move.
no_form : MostTried false plain (tokens_of (codes "1. e4 e9 ")) 3
unfolding refusal Costs move_of play position_of first_position squares agreeing
no_form =
    passes _ _ _ 0 3 refl (record { found = 0; finds = refl; writes = refl })
    (passes _ _ _ 0 3 refl (record { found = 0; finds = refl; writes = refl })
    (passes _ _ _ 3 0 refl (record { found = 3; finds = refl; writes = quiet _ 3 refl })
    (refused _ _ _ 0 NotAMove refl (record { found = 0; finds = refl; writes = refl }))))

-- the one pair of castling counts, though it is rejected
refused_castling : MostTried false plain (tokens_of (codes "O-O ")) 1
unfolding refusal Costs move_of play position_of first_position squares agreeing
refused_castling = refused _ _ _ 1 IllegalMove refl (record { found = 1; finds = refl; writes = refl })

-- a knight is found by one pair, and its SAN needs one
knight : MostTried false plain (tokens_of (codes "Nf3 *")) 2
unfolding refusal Costs move_of play position_of first_position squares agreeing
knight =
    passes _ _ _ 2 0 refl (record { found = 1; finds = refl; writes = quiet _ 2 refl })
    (passes _ _ _ 0 0 refl (record { found = 0; finds = refl; writes = refl })
    (passes _ _ _ 0 0 refl (record { found = 0; finds = refl; writes = refl }) (none _)))

-- a silent reading finds it, and spells nothing
knight_silent : MostTried true plain (tokens_of (codes "Nf3 *")) 1
unfolding refusal Costs move_of play position_of first_position squares agreeing
knight_silent =
    passes _ _ _ 1 0 refl (record { found = 1; finds = refl; writes = refl })
    (passes _ _ _ 0 0 refl (record { found = 0; finds = refl; writes = refl })
    (passes _ _ _ 0 0 refl (record { found = 0; finds = refl; writes = refl }) (none _)))

-- the reduced format has no variation, so its moves are found and not written
variation_reduced : Tries false reduced (read reduced (tokens_of (codes "a3 ("))).progress.part (symbol (codes "Nf3")) 1
unfolding refusal Costs move_of play position_of first_position squares agreeing
variation_reduced = record { found = 1; finds = refl; writes = refl }

-- Two readings of one text. The first finds the knight, and the second spells it too. The second
-- ends at the marker, and no pair is tried behind it.
abbrev comment_behind : List ℕ
comment_behind = codes "Nf3 * {a}"

knight_twice : MostOfBoth twice (tokens_of comment_behind) (tokens_of comment_behind) 2
unfolding refusal Costs move_of play position_of first_position squares agreeing
knight_twice =
    record {
      front = take 2 (tokens_of comment_behind);
      rest = drop 2 (tokens_of comment_behind);
      cut = refl;
      passes = refl;
      same = refl;
      most_of_first = 1;
      most_of_second = 2;
      first_tried =
          passes _ _ _ 1 0 refl (record { found = 1; finds = refl; writes = refl })
          (passes _ _ _ 0 0 refl (record { found = 0; finds = refl; writes = refl })
          (passes _ _ _ 0 0 refl (record { found = 0; finds = refl; writes = refl })
          (passes _ _ _ 0 0 refl (record { found = 0; finds = refl; writes = refl })
          (passes _ _ _ 0 0 refl (record { found = 0; finds = refl; writes = refl })
          (passes _ _ _ 0 0 refl (record { found = 0; finds = refl; writes = refl }) (none _))))));
      second_tried =
          passes _ _ _ 2 0 refl (record { found = 1; finds = refl; writes = quiet _ 2 refl })
          (passes _ _ _ 0 0 refl (record { found = 0; finds = refl; writes = refl }) (none _));
      greater = refl;
    }

-- The first reading may try more if the second has another move: three pawns see e4, and two a4.
other_move : MostOfBoth twice (tokens_of (codes "e4 *")) (tokens_of (codes "a4 *")) 3
unfolding refusal Costs move_of play position_of first_position squares agreeing
other_move =
    record {
      front = take 2 (tokens_of (codes "a4 *"));
      rest = drop 2 (tokens_of (codes "a4 *"));
      cut = refl;
      passes = refl;
      same = refl;
      most_of_first = 3;
      most_of_second = 2;
      first_tried =
          passes _ _ _ 3 0 refl (record { found = 3; finds = refl; writes = refl })
          (passes _ _ _ 0 0 refl (record { found = 0; finds = refl; writes = refl })
          (passes _ _ _ 0 0 refl (record { found = 0; finds = refl; writes = refl }) (none _)));
      second_tried =
          passes _ _ _ 2 0 refl (record { found = 2; finds = refl; writes = quiet _ 2 refl })
          (passes _ _ _ 0 0 refl (record { found = 0; finds = refl; writes = refl }) (none _));
      greater = refl;
    }
