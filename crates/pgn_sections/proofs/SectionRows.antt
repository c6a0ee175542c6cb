-- Worked rows of where reading goes on behind a bad game: the text, where the game before ends, the
-- place of the fault, and the result. They are worked out by hand from the rules in words.
use Rattle.pgn_sections.proofs.Words.{◌≡◌, false, true, [], ◌∷◌, None, Some, refl, codes, unread, lines_of, next_place, behind_lines, whole_lines, Anywhere}

next_places : Unit {0}
next_places =
    -- a line that begins with a bracket, after movetext
    let a_tag_after_movetext : next_place (codes "1. e4 e9 *\n\n[White \"Ada\"]\n\n1. d4 *\n") 0 6 ≡ Some 12 = refl in
    -- `[%` begins no tag section
    let a_percent_sign_behind_the_bracket : next_place (codes "1. e4 e9\n[%clk 1]\n[ %emt 2]\n[White \"Ada\"]\n") 0 6 ≡ Some 28 = refl in
    let a_percent_sign_behind_the_bracket_2 : next_place (codes "1. e4 e9\n[%clk 1]\n") 0 6 ≡ None = refl in
    -- escape lines just before the line belong to the next game, if they are behind the fault
    let escape_lines : next_place (codes "1. e4 e9 *\n% a\n% b\n\n[White \"Ada\"]\n") 0 6 ≡ Some 11 = refl in
    let escape_lines_2 : next_place (codes "1. e4 e9 *\n% a\n2. d4\n[White \"Ada\"]\n") 0 6 ≡ Some 21 = refl in
    let escape_lines_3 : next_place (codes "[Event \"a\"]\n\ne4\n% a\n[White \"Ada\"]\n") 0 17 ≡ Some 20 = refl in
    -- text is movetext behind an empty line, and not behind a tag pair
    let movetext_behind_an_empty_line : next_place (codes "[Event \"a\"]\n\ne4 e9\n[White \"Ada\"]\n") 0 16 ≡ Some 19 = refl in
    let movetext_behind_an_empty_line_2 : next_place (codes "[Event \"a\"]\ne4 e9\n[White \"Ada\"]\n") 0 12 ≡ None = refl in
    let movetext_behind_an_empty_line_3 : next_place (codes "e4 e9\n[White \"Ada\"]\n") 0 0 ≡ Some 6 = refl in
    -- text is movetext if it begins with a move number, or ends with a termination marker
    let movetext_with_a_number_or_a_marker : next_place (codes "[Event \"a\"]\n 12 . e9\n[White \"Ada\"]\n") 0 18 ≡ Some 21 = refl in
    let movetext_with_a_number_or_a_marker_2 : next_place (codes "[Event \"a\"]\n12 e9.\n[White \"Ada\"]\n") 0 15 ≡ None = refl in
    let movetext_with_a_number_or_a_marker_3 : next_place (codes "[Event \"a\"] 1. e9\n[White \"Ada\"]\n") 0 15 ≡ Some 18 = refl in
    let movetext_with_a_number_or_a_marker_4 : next_place (codes "[Event \"a\"]\ne9 1/2-1/2 ; a\n[White \"Ada\"]\n") 0 12 ≡ Some 27 = refl in
    let movetext_with_a_number_or_a_marker_5 : next_place (codes "[Event \"a\"]\ne9 0-1\n[White \"Ada\"]\n") 0 12 ≡ Some 19 = refl in
    -- a game without movetext ends where an empty line and an Event tag follow
    let no_movetext : next_place (codes "[White \"Ada\"x]\n\n[Event \"a\"]\n") 0 11 ≡ Some 16 = refl in
    let no_movetext_2 : next_place (codes "[White \"Ada\"x]\n\n[Site \"a\"]\n") 0 11 ≡ None = refl in
    let no_movetext_3 : next_place (codes "[White \"Ada\"x]\n[Event \"a\"]\n") 0 11 ≡ None = refl in
    let no_movetext_4 : next_place (codes "[White \"Ada\"x]\n\n[Event a]\n") 0 11 ≡ None = refl in
    let no_movetext_5 : next_place (codes "[White \"Ada\"x]\n\n[Events \"a\"]\n") 0 11 ≡ None = refl in
    -- an open comment hides a line, unless this begins a tag pair with a quoted value, after
    -- movetext or an empty line
    let an_open_comment : next_place (codes "1. e4 {a\n[White Ada]\n} *\n[White \"Bo\"]\n") 0 6 ≡ Some 25 = refl in
    let an_open_comment_2 : next_place (codes "1. e4 {a \n[White \"Ada\"]\n") 0 9 ≡ Some 10 = refl in
    let an_open_comment_3 : next_place (codes "{a\n[White \"Ada\"]\n\n[Black \"Bo\"]\n") 0 0 ≡ Some 18 = refl in
    let an_open_comment_4 : next_place (codes "{a\n[White \"Ada\"]\n} 1. e4\n[Black \"Bo\"]\n") 0 0 ≡ Some 25 = refl in
    -- a line that ends with a bracket, after movetext and an empty line, is the rest of a tag pair
    let the_rest_of_a_tag_pair : next_place (codes "1. e9 *\n\nAda\"] \n[Black \"Bo\"]\n") 0 3 ≡ Some 9 = refl in
    let the_rest_of_a_tag_pair_2 : next_place (codes "1. e9 *\nAda\"]\n[Black \"Bo\"]\n") 0 3 ≡ Some 14 = refl in
    let the_rest_of_a_tag_pair_3 : next_place (codes "1. e9 *\n% a\n\nAda\"]\n") 0 3 ≡ Some 8 = refl in
    -- a game does not end where it begins
    let the_first_place : next_place (codes "[White \"Ada\"]\n\n1. e4 *\n[Black \"Bo\"]\n") 0 0 ≡ Some 23 = refl in
    let the_first_place_2 : next_place (codes "1. e4 *\n[White \"Ada\"]\n") 8 8 ≡ None = refl in
    -- what a tag pair that is broken over lines has on a line is no movetext
    let tag_pairs_that_are_broken : next_place (codes "[White \"Ada\n1. e4 e5\"]\n[Event \"a\"]\n") 0 15 ≡ None = refl in
    let tag_pairs_that_are_broken_2 : next_place (codes "[White Ada] 1. e9\n[Black \"Bo\"]\n") 0 15 ≡ Some 18 = refl in
    let tag_pairs_that_are_broken_3 : next_place (codes "[White {\"]} e4 1-0\n[Event \"a\"]\n") 0 12 ≡ None = refl in
    let tag_pairs_that_are_broken_4 : next_place (codes "[White \"a\\\"] 1. e4\"] 1. e9\n[Event \"a\"]\n") 0 24 ≡ Some 27 = refl in
    tt

-- the whole lines of a piece
lines_of_pieces : Unit {0}
lines_of_pieces =
    let last_piece : whole_lines true (lines_of (codes "a\nb\r\nc")) ≡ codes "a\n" ∷ codes "b\r\n" ∷ codes "c" ∷ [] = refl in
    -- more may follow the last line of another piece, and an LF its CR
    let without_an_end : whole_lines false (lines_of (codes "a\nb\r\nc")) ≡ codes "a\n" ∷ codes "b\r\n" ∷ [] = refl in
    let cr_at_the_end : whole_lines false (lines_of (codes "a\rb\r")) ≡ codes "a\r" ∷ [] = refl in
    let lf_at_the_end : whole_lines false (lines_of (codes "a\r\n\n")) ≡ codes "a\r\n" ∷ codes "\n" ∷ [] = refl in
    let no_line : whole_lines false (lines_of (codes "abc")) ≡ [] = refl in
    tt

-- the game behind lines
games_behind_lines : Unit {0}
games_behind_lines =
    -- a comment is open at the end of the text
    let an_open_comment : behind_lines (unread 0 6) (lines_of (codes "1. e4 {a\n b")) ≡ record {
      begin = 0;
      fault = 6;
      at = 11;
      ends = Anywhere;
      has_tags = false;
      has_movetext = true;
      is_behind_empty_line = false;
      comment_at = Some 6;
      escapes_at = None;
    } = refl in
    -- the place is that of the escape line before the tag, and what was seen is of the lines before
    let a_place : behind_lines (unread 0 6) (lines_of (codes "1. e9\n\n% a\n [A")) ≡ record {
      begin = 0;
      fault = 6;
      at = 7;
      ends = Anywhere;
      has_tags = false;
      has_movetext = true;
      is_behind_empty_line = true;
      comment_at = None;
      escapes_at = Some 7;
    } = refl in
    tt
