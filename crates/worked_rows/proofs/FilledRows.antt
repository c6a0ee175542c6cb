-- Worked rows of games with their defaults filled in (PGN 3.2.4, 8.1.1, 9.7), of texts that are
-- written again as they are, and of what goes wrong where a premise of the laws is missing.
use Rattle.worked_rows.proofs.Words.{LexReason, String, ◌≡◌, ℕ, List, [], ◌∷◌, ◌++◌, length, refl, arith, codes, replicate, digits, squares, agreeing, tokens_of, Full, Reduced, Lexical, NotAMove, TooManyTags, Profile, counts_as, Counted, Verdict, refused, totals, output, verdict, first_position, position_of, move_of, text_of_move, play, refusal, Item, Game, Pair, roster}
use Rattle.pgn_lexer.specs.Tokens as tokens
use Rattle.pgn_game.specs.declared.reason.Fault.{Fault}
use Rattle.pgn_game.specs.laws.Filled.{exported_pairs, filled}
use Rattle.pgn_game.specs.laws.FixedPoint.{TagSectionFits, AreExportable, TextSpells, FixedPoint, IsExportable, ExportingTwice, FewPairsHaveRoom}
use Rattle.pgn_game.specs.games.Game as games
use Rattle.pgn_game.specs.games.Spells.{Spells, no_pair, no_game, next_game, no_more, new_level}
use Rattle.pgn_game.specs.export.Text.{text_of}
use Rattle.worked_rows.proofs.LegalRows.{moves, e4, e5}
use Rattle.worked_rows.proofs.MoveRows.{played}
use Rattle.worked_rows.proofs.WorkedRows.{plain, reduced, checked, Gives, BytesGive, counted, fault, unknown, head}

abbrev pair : String → String → Pair
pair name value = record { name = codes name; value = codes value }

abbrev game : List Pair → List Item → String → Game
game pairs items marker = record { pairs = pairs; items = items; marker = codes marker }

abbrev fen : Pair
fen = pair "FEN" "4k3/8/8/8/8/8/8/4K3 w - - 0 1"

-- The pairs of a game that has none, in the order of their names.
no_pairs : filled Full (game [] [] "*") ≡ game
    (pair "Black" "?" ∷ pair "Date" "????.??.??"
    ∷ pair "Event" "?" ∷ pair "Result" "*"
    ∷ pair "Round" "?" ∷ pair "Site" "?"
    ∷ pair "White" "?" ∷ []) [] "*"
unfolding roster
no_pairs = refl

-- A missing Result is the marker.
marker_is_result : filled Full (game (pair "White" "A" ∷ []) [] "1-0") ≡ game
    (pair "Black" "?" ∷ pair "Date" "????.??.??"
    ∷ pair "Event" "?" ∷ pair "Result" "1-0"
    ∷ pair "Round" "?" ∷ pair "Site" "?"
    ∷ pair "White" "A" ∷ []) [] "1-0"
unfolding roster
marker_is_result = refl

-- Beside a FEN there is SetUp 1, whatever the SetUp was.
abbrev with_fen : List Pair
with_fen =
    pair "Black" "?" ∷ pair "Date" "????.??.??"
    ∷ pair "Event" "?" ∷ fen ∷ pair "Result" "*"
    ∷ pair "Round" "?" ∷ pair "SetUp" "1"
    ∷ pair "Site" "?" ∷ pair "White" "?" ∷ []

set_up_is_added : (filled Full (game (fen ∷ []) [] "*")).pairs ≡ with_fen
unfolding roster
set_up_is_added = refl

set_up_is_mended :
    (filled Full (game (fen ∷ pair "SetUp" "0" ∷ []) [] "*")).pairs ≡ with_fen
unfolding roster
set_up_is_mended = refl

-- Without a FEN it stays as it is.
set_up_alone : (filled Full (game (pair "SetUp" "0" ∷ []) [] "*")).pairs ≡ pair "Black" "?" ∷ pair "Date" "????.??.??"
    ∷ pair "Event" "?" ∷ pair "Result" "*"
    ∷ pair "Round" "?" ∷ pair "SetUp" "0"
    ∷ pair "Site" "?" ∷ pair "White" "?" ∷ []
unfolding roster
set_up_alone = refl

-- The game `1. e4 $1 {good} (1. d4) e5`: in the reduced format the roster and two moves are left.
abbrev annotated : Game
annotated =
    game (pair "ECO" "C20" ∷ [])
    (e4 ∷ games.glyph 1 ∷ games.comment_open ∷ games.word (codes "good") ∷ games.comment_close
    ∷ games.open_variation ∷ moves 3 1 3 3 ∷ games.close_variation ∷ e5 ∷ []) "*"

all_items : (filled Full annotated).items ≡ annotated.items
all_items = refl

main_line : (filled Reduced annotated).items ≡ e4 ∷ e5 ∷ []
main_line = refl

roster_alone : (filled Reduced annotated).pairs ≡ (filled Full (game [] [] "*")).pairs
unfolding roster
roster_alone = refl

-- Texts that are written again as they are.
abbrev IsKept : Profile → Verdict → List ℕ → Type 0
IsKept p v text = BytesGive p text v text

kept_marker : IsKept plain (counted 1) (head ++ codes "*\n\n")
unfolding refusal roster
kept_marker = (refl, refl)

kept_fen : IsKept plain (counted 1)
    (unknown
    ++ codes "[Result \"*\"]\n[FEN \"4k3/8/8/8/8/8/8/4K3 w - - 0 1\"]\n[SetUp \"1\"]\n\n*\n\n")
unfolding refusal roster position_of squares
kept_fen = (refl, refl)

kept_movetext : IsKept plain (played 2) (head ++ codes "1. e4 $1 { good } ( 1. d4 ) 1... e5 *\n\n")
unfolding refusal roster move_of play text_of_move first_position squares agreeing digits
kept_movetext = (refl, refl)

kept_main_line : IsKept reduced (played 2) (head ++ codes "1. e4 e5 *\n\n")
unfolding refusal roster move_of play text_of_move first_position squares agreeing digits
kept_main_line = (refl, refl)

-- A word of 79 letters has a line of its own; a word may begin with %, at the start of a line too.
kept_words : IsKept plain (counted 1)
    (head ++ codes "{\n" ++ replicate 79 97 ++ codes "\n%b } { %c } *\n\n")
unfolding refusal roster
kept_words = (refl, refl)

kept_result : IsKept checked (counted 1) (unknown ++ codes "[Result \"1-0\"]\n\n1-0\n\n")
unfolding refusal roster
kept_result = (refl, refl)

-- Where a game may have fewer pairs than its tag section has lines, its text is rejected.
abbrev seven_pairs : Profile
seven_pairs = record { tags = 7; depth = 0; mode = Full; missing_result = counts_as (codes "*") }

abbrev eighth_line : List ℕ
eighth_line = unknown ++ codes "[Result \"*\"]\n[A \"1\"]\n\n*\n\n"

no_room : Gives seven_pairs "[A \"1\"] *" (counted 1) eighth_line
unfolding refusal roster
no_room = (refl, refl)

too_many : BytesGive seven_pairs eighth_line (fault 92 TooManyTags) []
unfolding refusal roster
too_many = (refl, refl)

-- So are games that no text spells: with a name that begins with _, and a word outside comments.
abbrev odd_name : Game
odd_name = game (pair "_a" "1" ∷ []) [] "*"

odd_name_text :
    text_of plain (odd_name ∷ []) ≡ unknown ++ codes "[Result \"*\"]\n[_a \"1\"]\n\n*\n\n"
unfolding roster
odd_name_text = refl

odd_name_refused :
    BytesGive plain (text_of plain (odd_name ∷ [])) (fault 93 (Lexical LexReason.StrayByte)) []
unfolding refusal roster
odd_name_refused = (refl, refl)

abbrev bare_word : Game
bare_word = game [] (games.word (codes "a") ∷ []) "*"

bare_word_text : text_of plain (bare_word ∷ []) ≡ head ++ codes "a *\n\n"
unfolding roster
bare_word_text = refl

bare_word_refused : BytesGive plain (text_of plain (bare_word ∷ [])) (fault 93 NotAMove) []
unfolding refusal roster move_of
bare_word_refused = (refl, refl)

-- So no count of games is answered for them.
not_kept : (p : Profile) (s : List ℕ) (f : Fault) (c : Counted) → verdict p s ≡ refused f → verdict p s ≡ totals c → ⊥
not_kept p s f c e h = cc

no_room_not_kept : (c : Counted) → verdict seven_pairs eighth_line ≡ totals c → ⊥
no_room_not_kept c = not_kept seven_pairs eighth_line _ c too_many.0

odd_name_not_kept : (c : Counted) → verdict plain (text_of plain (odd_name ∷ [])) ≡ totals c → ⊥
odd_name_not_kept c = not_kept plain (text_of plain (odd_name ∷ [])) _ c odd_name_refused.0

bare_word_not_kept : (c : Counted) → verdict plain (text_of plain (bare_word ∷ [])) ≡ totals c → ⊥
bare_word_not_kept c = not_kept plain (text_of plain (bare_word ∷ [])) _ c bare_word_refused.0

-- Seven lines are always written, so fewer than seven pairs are too few for any game.
abbrev six_pairs : Profile
six_pairs = record { tags = 6; depth = 0; mode = Reduced; missing_result = counts_as (codes "*") }

six_are_few : Gives six_pairs "*" (counted 1) (head ++ codes "*\n\n")
unfolding refusal roster
six_are_few = (refl, refl)

seventh_line : BytesGive six_pairs (head ++ codes "*\n\n") (fault 79 TooManyTags) []
unfolding refusal roster
seventh_line = (refl, refl)

-- A FEN alone has nine lines: the roster, itself and its SetUp.
abbrev eight_pairs : Profile
eight_pairs = record { tags = 8; depth = 0; mode = Full; missing_result = counts_as (codes "*") }

nine_lines : length (exported_pairs Full (game (fen ∷ []) [] "*")) ≡ 9
unfolding roster
nine_lines = refl

no_room_for_nine : TagSectionFits eight_pairs (game (fen ∷ []) [] "*") → ⊥
no_room_for_nine h = let nine = nine_lines in absurd (omega arith)

-- Games that have the same text: a default may be written out; in the reduced format the other
-- pairs, glyphs, comments and variations make no difference.
default_written_out : filled Full (game [] [] "*") ≡ filled Full (game (pair "White" "?" ∷ []) [] "*")
unfolding roster
default_written_out = refl

same_in_reduced : filled Reduced annotated ≡ filled Reduced (game [] (e4 ∷ e5 ∷ []) "*")
unfolding roster
same_in_reduced = refl

same_output : output plain (codes "[White \"?\"] *") ≡ output plain (codes "*")
unfolding refusal roster
same_output = refl

marker_alone : Spells plain (tokens_of (codes "*")) (game [] [] "*" ∷ [])
marker_alone =
    next_game (tokens.asterisk ∷ []) (tokens.end ∷ []) (game [] [] "*") []
    (record {
      before = [];
      tags = [];
      text = [];
      last = tokens.asterisk;
      given = [];
      tokens = refl;
      dropped = refl;
      pairs = no_pair;
      keeps = record { count = omega arith; each = tt; distinct = tt };
      sorted = refl;
      set_up = λ e. absurd (cc);
      bare = λ e. tt;
      items = no_more 0 (new_level []);
      marker = refl;
      result = refl;
    })
    (no_game [] refl)

-- The laws on one game, that of `*`.
alone : AreExportable plain (game [] [] "*" ∷ [])
unfolding roster
alone = record { source = codes "*"; spelled = marker_alone; room = (omega arith, tt) }

spells_by_law : TextSpells → Spells plain (tokens_of (head ++ codes "*\n\n"))
    (filled Full (game [] [] "*") ∷ [])
unfolding roster
spells_by_law law = law plain (game [] [] "*" ∷ []) alone

kept_by_law : FixedPoint → IsKept plain (counted 1) (head ++ codes "*\n\n")
unfolding roster
kept_by_law law = let h = law plain (game [] [] "*" ∷ []) alone in (h.1, h.0)

read_well : IsExportable plain (codes "*")
unfolding refusal roster
read_well = record { no_fault = refl; room = (omega arith, tt) }

twice_by_law : ExportingTwice → output plain (output plain (codes "*")) ≡ head ++ codes "*\n\n"
unfolding refusal roster
twice_by_law law = (law plain (codes "*") read_well).0

room_by_law : FewPairsHaveRoom → TagSectionFits eight_pairs (game [] [] "*")
room_by_law law = law eight_pairs (game [] [] "*") (omega arith)
