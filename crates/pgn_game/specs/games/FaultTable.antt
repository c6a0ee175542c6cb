-- **Definition**: the fault table: which token is rejected after which part of a game, and why.
-- Letters: p is the profile, k the kind of a token, s the text of a symbol, ps are pairs. In the
-- tests of texts p is a test, and in `is_at_limit` a position.
use Rattle.std.specs.Prelude.{ℕ, ◌+◌, Bool, true, false, ◌||◌, ◌&&◌, not, List, [], ◌∷◌, length, nat_lt, nat_le, ◌==◌, Option, None, Some, Result, Ok, Err, bytes_eq, unwrap_or, is_some, codes}
use Rattle.chess_rules.specs.declared.position.Parts.{Parts}
use Rattle.chess_text.specs.declared.fen.FenFault.{FenFault}
use Rattle.chess_rules.specs.declared.position.Played.{Played}
use Rattle.chess_text.specs.declared.resolution.SanFault.{SanFault}
use Rattle.chess_text.specs.declared.resolution.SanFault.TheVariants.{NoMove, Ambiguous}
use Rattle.std.specs.List.{list_all}
use Rattle.pgn_layout.specs.TagLine.{escaped}
use Rattle.pgn_lexer.specs.Tokens as tokens
use Rattle.pgn_lexer.specs.Tokens.{Kind}
use Rattle.pgn_lexer.specs.Bytes.{starts_symbol, is_digit}
use Rattle.pgn_game.specs.declared.reason.Reason.{Reason}
use Rattle.pgn_game.specs.declared.reason.Reason.TheVariants.{Lexical, ExpectedName, BadTagName, DuplicateTag, TooManyTags, ExpectedValue, BadResult, BadFen, TagLineTooLong, ExpectedBracket, SetUpWithoutFen, ReducedFen, TagInMovetext, NotAMove, IllegalMove, AmbiguousMove, MoveLimit, NoMoveBefore, TooDeep, UnmatchedClose, MarkerInVariation, ResultDiffers, UnexpectedEnd}
use Rattle.pgn_game.specs.declared.mode.Mode.{Mode}
use Rattle.pgn_game.specs.declared.mode.Mode.TheVariants.{Full, Reduced}
use Rattle.pgn_game.specs.declared.marker.Marker.TheVariants.{WhiteWins, BlackWins, Draw, Unknown}
use Rattle.pgn_game.specs.games.Markers.{marker_text}
use Rattle.pgn_game.specs.games.Profile.{Profile, Missing, counts_as, takes_the_marker}
use Rattle.pgn_game.specs.games.Pairs.{Pair, value_of, has_pair}
use Rattle.pgn_game.specs.declared.stage.Stage.{Stage}
use Rattle.pgn_game.specs.declared.stage.Stage.TheVariants.{Between, AfterLeftBracket, AfterName, AfterValue, AfterTags, InMovetext}
use Rattle.pgn_game.specs.games.Chess.{position_of, move_of, is_black_to_move}
use Rattle.pgn_game.specs.games.Game.{Part}
use Rattle.pgn_game.specs.games.Levels.{Levels, levels_of, depth, here, start_of}

-- Tests of a token.
abbrev pub is_comment : Kind → Bool
is_comment tokens.comment_open = true
is_comment (tokens.word text) = true
is_comment tokens.comment_close = true
is_comment _ = false

abbrev pub is_left_bracket : Kind → Bool
is_left_bracket tokens.left_bracket = true
is_left_bracket _ = false

abbrev pub is_right_bracket : Kind → Bool
is_right_bracket tokens.right_bracket = true
is_right_bracket _ = false

abbrev pub is_left_paren : Kind → Bool
is_left_paren tokens.left_paren = true
is_left_paren _ = false

abbrev pub is_right_paren : Kind → Bool
is_right_paren tokens.right_paren = true
is_right_paren _ = false

abbrev pub is_end : Kind → Bool
is_end tokens.end = true
is_end _ = false

-- a symbol whose text passes the test, and a string whose data pass it
abbrev pub is_symbol_with : (List ℕ → Bool) → Kind → Bool
is_symbol_with p (tokens.symbol text) = p text
is_symbol_with p _ = false

abbrev pub is_string_with : (List ℕ → Bool) → Kind → Bool
is_string_with p (tokens.str text) = p text
is_string_with p _ = false

abbrev pub is_symbol : Kind → Bool
is_symbol = is_symbol_with (λ text. true)

abbrev pub is_string : Kind → Bool
is_string = is_string_with (λ text. true)

-- Tests of a stage.
-- each stage has a number of its own
abbrev pub stage_number : Stage → ℕ
stage_number Between = 0
stage_number AfterLeftBracket = 1
stage_number AfterName = 2
stage_number AfterValue = 3
stage_number AfterTags = 4
stage_number InMovetext = 5

-- whether the part is at this stage
abbrev pub is_at : Stage → Part → Bool
is_at stage part = stage_number stage == stage_number part.stage

-- the stages at which a pair or the movetext can begin
abbrev pub is_before_movetext : Part → Bool
is_before_movetext part = is_at Between part || is_at AfterTags part

-- the stages outside tag pairs: movetext can begin or go on
abbrev pub is_outside_tag_pairs : Part → Bool
is_outside_tag_pairs part = is_before_movetext part || is_at InMovetext part

-- letters, digits and _ (PGN 8.1)
abbrev pub in_name : ℕ → Bool
in_name b = starts_symbol b || (b == 95)

-- The markers (PGN 8.2.6): three are symbols, which `is_score` tests, and one is the asterisk.
abbrev pub is_score : List ℕ → Bool
is_score s =
    bytes_eq s (marker_text WhiteWins) || bytes_eq s (marker_text BlackWins)
    || bytes_eq s (marker_text Draw)

-- the text of a marker, which a Result has as its value
abbrev pub is_result : List ℕ → Bool
is_result s = is_score s || bytes_eq s (marker_text Unknown)

-- the text of the marker that a token is
abbrev pub marker_of : Kind → Option (List ℕ)
marker_of tokens.asterisk = Some (marker_text Unknown)
marker_of (tokens.symbol s) = elim (is_score s) [ true ↦ Some s | false ↦ None ]
marker_of _ = None

abbrev pub is_marker : Kind → Bool
is_marker k = is_some (marker_of k)

-- Moves (PGN 8.2.3).

-- digits alone, which may be a move number (PGN 8.2.2)
abbrev pub is_number : List ℕ → Bool
is_number s = list_all is_digit s

-- the levels after the items so far
abbrev pub levels_of_part : Part → Levels
levels_of_part part = levels_of part.items

-- the position after the items so far
abbrev pub position_in : Part → Parts
position_in part = here (start_of part.pairs) (levels_of_part part)

-- Tests of what a symbol means as a move: its text is not that of a move; no legal move agrees;
-- more than one does; one does.
abbrev pub is_no_form : Option (Result Played SanFault) → Bool
is_no_form None = true
is_no_form _ = false

abbrev pub is_no_move : Option (Result Played SanFault) → Bool
is_no_move (Some (Err NoMove)) = true
is_no_move _ = false

abbrev pub is_many_moves : Option (Result Played SanFault) → Bool
is_many_moves (Some (Err Ambiguous)) = true
is_many_moves _ = false

abbrev pub is_one_move : Option (Result Played SanFault) → Bool
is_one_move (Some (Ok played)) = true
is_one_move _ = false

-- a symbol that is neither a number nor a marker, and that passes as a move
abbrev pub is_move_with : (Option (Result Played SanFault) → Bool) → Part → Kind → Bool
is_move_with test part (tokens.symbol s) = elim (is_number s || is_score s) [ true ↦ false | false ↦ test (move_of (position_in part) s) ]
is_move_with test part _ = false

-- Black's move with the number 99,999 would lead to a number above it
abbrev pub is_at_limit : Parts → Bool
is_at_limit p = is_black_to_move p && (p.full == 99999)

-- FEN and SetUp (PGN 9.7).

-- the field because of which a value is no FEN
abbrev pub fen_fault_field : Result Parts FenFault → Option ℕ
fen_fault_field (Ok p) = None
fen_fault_field (Err fault) = Some fault.field

-- that field of a value, if it is no FEN
abbrev pub fen_field : List ℕ → Option ℕ
fen_field value = fen_fault_field (position_of value)

-- the same for a string, and 0 where there is no such field
abbrev pub fen_field_of : Kind → ℕ
fen_field_of (tokens.str value) = unwrap_or (fen_field value) 0
fen_field_of _ = 0

-- SetUp is 1, and there is no FEN
abbrev pub lacks_fen : List Pair → Bool
lacks_fen ps = bytes_eq (unwrap_or (value_of ps (codes "SetUp")) []) (codes "1") && not (has_pair ps (codes "FEN"))

-- the reduced format is written
abbrev pub is_reduced : Mode → Bool
is_reduced Full = false
is_reduced Reduced = true

-- the value of a missing Result
abbrev pub result_for : Missing → List ℕ → List ℕ
result_for (counts_as text) marker = text
result_for takes_the_marker marker = marker

-- A marker that is not the Result. A marker that is taken for a missing Result equals itself.
abbrev pub has_other_result : Missing → Part → Kind → Bool
has_other_result missing part k =
    elim (marker_of k) [
      | None ↦ false
      | Some marker ↦ not (bytes_eq marker (unwrap_or (value_of part.pairs (codes "Result")) (result_for missing marker)))
    ]

-- a row of the table
pub record Row : Type 0 where
  pub holds : Bool
  pub reason : Reason

abbrev pub row : Reason → Bool → Row
row reason holds = record { holds = holds; reason = reason }

-- The table, lowest number first. These rules are our own: a name is given once (22), a game has at
-- most so many pairs (23), SetUp 1 needs a FEN (30), the reduced format has no FEN (31), no number
-- is above 99,999 (36), variations are at most so deep (38), and the profile says what a missing
-- Result is (41).
abbrev pub rows : Profile → Part → Kind → List Row
rows p part k =
    row ExpectedName (is_at AfterLeftBracket part && not (is_symbol k || is_comment k))
    ∷ row BadTagName (is_at AfterLeftBracket part && is_symbol_with (λ name. not (list_all in_name name)) k)
    ∷ row DuplicateTag (is_at AfterLeftBracket part && is_symbol_with (has_pair part.pairs) k)
    ∷ row TooManyTags (is_before_movetext part && is_left_bracket k && nat_le p.tags (length part.pairs))
    ∷ row ExpectedValue (is_at AfterName part && not (is_string k || is_comment k))
    ∷ row BadResult (is_at AfterName part && bytes_eq part.name (codes "Result") && is_string_with (λ value. not (is_result value)) k)
    ∷ row (BadFen (fen_field_of k)) (is_at AfterName part && bytes_eq part.name (codes "FEN") && is_string_with (λ value. is_some (fen_field value)) k)
    ∷ row TagLineTooLong (is_at AfterLeftBracket part && is_symbol_with (λ name. nat_lt 249 (length name)) k)
    ∷ row TagLineTooLong (is_at AfterName part && is_string_with (λ value. nat_lt 249 (length part.name + length (escaped value))) k)
    ∷ row ExpectedBracket (is_at AfterValue part && not (is_right_bracket k || is_comment k))
    ∷ row SetUpWithoutFen (is_at AfterTags part && not (is_left_bracket k || is_end k) && lacks_fen part.pairs)
    ∷ row ReducedFen (is_at AfterLeftBracket part && is_reduced p.mode && is_symbol_with (λ name. bytes_eq name (codes "FEN")) k)
    ∷ row TagInMovetext (is_at InMovetext part && is_left_bracket k)
    ∷ row NotAMove (is_outside_tag_pairs part && (is_right_bracket k || is_string k || is_move_with is_no_form part k))
    ∷ row IllegalMove (is_outside_tag_pairs part && is_move_with is_no_move part k)
    ∷ row AmbiguousMove (is_outside_tag_pairs part && is_move_with is_many_moves part k)
    ∷ row MoveLimit (is_outside_tag_pairs part && is_move_with is_one_move part k && is_at_limit (position_in part))
    ∷ row NoMoveBefore (is_outside_tag_pairs part && is_left_paren k && not (levels_of_part part).current.has_own_move)
    ∷ row TooDeep (is_outside_tag_pairs part && is_left_paren k && nat_le p.depth (depth (levels_of_part part)))
    ∷ row UnmatchedClose (is_outside_tag_pairs part && is_right_paren k && (depth (levels_of_part part) == 0))
    ∷ row MarkerInVariation (is_outside_tag_pairs part && is_marker k && nat_le 1 (depth (levels_of_part part)))
    ∷ row ResultDiffers (is_outside_tag_pairs part && has_other_result p.missing_result part k && (depth (levels_of_part part) == 0))
    ∷ row UnexpectedEnd ((is_at AfterTags part || is_at InMovetext part) && is_end k)
    ∷ []

-- the reason of the first row that holds
abbrev pub first_holding : List Row → Option Reason
first_holding [] = None
first_holding (r ∷ rs) = elim r.holds [ true ↦ Some r.reason | false ↦ first_holding rs ]

-- Why a token is rejected after this part, if it is. It is `unfoldable`, so that goals show it by
-- its name.
unfoldable pub refusal : Profile → Part → Kind → Option Reason
refusal p part (tokens.refused r) = Some (Lexical r)
refusal p part k = first_holding (rows p part k)

-- The position in which a token is rejected, if it is rejected as a move: no legal move agrees,
-- more than one does, or a number above 99,999 would follow.
abbrev pub position_if_move : Reason → Parts → Option Parts
position_if_move IllegalMove here = Some here
position_if_move AmbiguousMove here = Some here
position_if_move MoveLimit here = Some here
position_if_move _ here = None
