-- Worked rows of legal moves: a variation begins in the position before the move that it replaces.
use Rattle.worked_rows.proofs.Words.{◌≡◌, ℕ, true, false, [], ◌∷◌, None, refl, codes, square, squares, first_position, position_of, play, Pair, Item, move, open_variation, close_variation}
use Rattle.pgn_game.specs.laws.MovesAreLegal.{plays_legally}

-- a move from one square to another, each as file and rank from 0
abbrev pub moves : (a b c d : ℕ) → Item
moves a b c d = move (record { from = square a b; to = square c d; promotion = None })

abbrev pub e4 : Item
e4 = moves 4 1 4 3

abbrev pub e5 : Item
e5 = moves 4 6 4 4

abbrev knight_f3 : Item
knight_f3 = moves 6 0 5 2

abbrev bishop_c4 : Item
bishop_c4 = moves 5 0 2 3

-- With a FEN the game begins there: Kd8 is a move of Black.
abbrev black_begins : Pair
black_begins = record { name = codes "FEN"; value = codes "4k3/8/8/8/8/8/8/4K3 b - - 0 1" }

games : Unit {0}
unfolding first_position position_of play squares
games =
    -- 1. e4 e5 2. Nf3 ( 2. Bc4 )
    let in_a_variation :
    plays_legally [] (e4 ∷ e5 ∷ knight_f3 ∷ open_variation ∷ bishop_c4 ∷ close_variation ∷ []) ≡ true = refl in
    -- 1. e4 e5 2. Nf3 Bc4: it is Black's move
    let not_behind_it : plays_legally [] (e4 ∷ e5 ∷ knight_f3 ∷ bishop_c4 ∷ []) ≡ false = refl in
    -- 1. e4 ( 1. e5 ): it is White's move, before e4
    let not_in_it : plays_legally [] (e4 ∷ open_variation ∷ e5 ∷ close_variation ∷ []) ≡ false = refl in
    -- 1. e4 ( 1. Bc4 ) e5: the bishop has no way before e4
    let not_yet : plays_legally [] (e4 ∷ open_variation ∷ bishop_c4 ∷ close_variation ∷ e5 ∷ []) ≡ false = refl in
    -- 1. e4 ( 1. d4 ) e5: behind a variation the game goes on from where it was
    let behind_a_variation :
    plays_legally [] (e4 ∷ open_variation ∷ moves 3 1 3 3 ∷ close_variation ∷ e5 ∷ []) ≡ true = refl in
    let from_a_fen : plays_legally (black_begins ∷ []) (moves 4 7 3 7 ∷ []) ≡ true = refl in
    let not_from_the_first : plays_legally [] (moves 4 7 3 7 ∷ []) ≡ false = refl in
    tt
