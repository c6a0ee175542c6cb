-- Worked rows of the first move number that does not run: the text of a game, and the place of the
-- number, the number, and the one before it. They are worked out by hand from the rules in words.
use Rattle.pgn_c.proofs.Words.{◌≡◌, None, Some, refl, codes, tokens_of, wrong_number}

wrong_numbers : Unit {0}
wrong_numbers =
    -- a number that is lower than the one before it, and one that is too high
    let a_lower_number : wrong_number (tokens_of (codes "1. e4 e5 2. d4 1. c4 *")) ≡ Some (record { at = 15; number = 1; before = 2 }) = refl in
    let a_number_too_high : wrong_number (tokens_of (codes "1. e4 e5 3. d4 *")) ≡ Some (record { at = 9; number = 3; before = 1 }) = refl in
    -- the first number runs, and none has to be there
    let the_first_number : wrong_number (tokens_of (codes "30. e4 e5 31. d4 *")) ≡ None = refl in
    let no_number : wrong_number (tokens_of (codes "e4 e5 d4 *")) ≡ None = refl in
    -- digits without a period are no number, and white space may be before the period
    let no_period : wrong_number (tokens_of (codes "1. e4 9 e5 *")) ≡ None = refl in
    let space_before_a_period : wrong_number (tokens_of (codes "1. e4 9 . d4 *")) ≡ Some (record { at = 6; number = 9; before = 1 }) = refl in
    -- variations and comments count nothing
    let a_variation : wrong_number (tokens_of (codes "1. e4 (9. d4) {7. a} e5 2. c4 *")) ≡ None = refl in
    tt
