-- Worked rows of what is unusual in a game, worked out by hand from the rules in words.
use Rattle.pgn_c.proofs.Words.{◌≡◌, false, refl, true, codes, is_unusual}

unusual_texts : Unit {0}
unusual_texts =
    let a_pawn_with_its_letter : is_unusual (codes "1. Pe4 *") ≡ true = refl in
    let a_null_move : is_unusual (codes "1. e4 0000 *") ≡ true = refl in
    let in_a_variation : is_unusual (codes "1. e4 (1. Pd4) *") ≡ true = refl in
    let a_line_comment : is_unusual (codes "1. e4 ;a") ≡ true = refl in
    let an_escape_line : is_unusual (codes "%a") ≡ true = refl in
    let marks_alone : is_unusual (codes "1. e4 ( !) *") ≡ true = refl in
    let a_glyph_alone : is_unusual (codes "1. e4 ($1) *") ≡ true = refl in
    -- a game that has none, and what is in comments and strings
    let a_game : is_unusual (codes "1. e4! (1. d4 $1) e5 10. O-O 1/2-1/2") ≡ false = refl in
    let more_digits : is_unusual (codes "00000 000 1000 *") ≡ false = refl in
    let a_promotion : is_unusual (codes "e8=P *") ≡ false = refl in
    let in_a_comment : is_unusual (codes "1. e4 {P ; % (! 0000} *") ≡ false = refl in
    let in_a_string : is_unusual (codes "[White \"P ; % (! 0000\"] *") ≡ false = refl in
    let in_a_symbol : is_unusual (codes "aP0000 *") ≡ false = refl in
    tt
