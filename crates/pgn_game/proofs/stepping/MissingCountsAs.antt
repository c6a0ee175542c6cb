-- A converter that has read no token, where a missing Result counts as another marker from now on.
use Rattle.pgn_game.proofs.Words.{Agrees, HoldsText, Stage, Between, StillStands, silenced, writing_nothing, Fault, Profile, ◌≡◌, Bool, [], ℕ, Option, Standing, Marker, marker_text, counting, HasRead, takes_the_marker, with_missing, no_part, letting_missing_result_take_marker, ReadsByMarker, reading_by_marker, arith, common_steps, GameState, Converter, CountsMissingAs, IsSound, counting_missing_as, game_in_reader_if, MostTried, none, rules}
use Rattle.pgn_game.proofs.twice.MarkerCounts.{agrees_under}

abbrev pub reader_counting : Marker → GameState → GameState
reader_counting marker r = record r { profile = counting r.profile (marker_text marker) }

pub finished_alike : (finished : Bool) (marker : Marker) (r : GameState)
    → game_in_reader_if finished (reader_counting marker r) ≡ game_in_reader_if finished r
finished_alike finished marker r = search rules

pub none_tried : {silent quiet : Bool} {p q : Profile} {n : ℕ} → MostTried silent p [] n → MostTried quiet q [] n
none_tried (none b) = none b

pub stands_counting : (marker : Marker) (c : Converter) → CountsMissingAs marker c (counting_missing_as marker c)
stands_counting marker c p u b stands = search (rules, agrees_under, none_tried)

pub sound_counting : (marker : Marker) (l : Standing) (r : GameState) (games : ℕ) (has_finished_game is_finished : Bool) (fault : Option Fault)
    → IsSound l r games has_finished_game is_finished fault → IsSound l (reader_counting marker r) games has_finished_game is_finished fault
sound_counting marker l r games has_finished_game is_finished fault sound = search rules

-- A converter that has read no token writes nothing from now on.
pub finished_silently : (finished : Bool) (r : GameState) → game_in_reader_if finished (silenced r) ≡ game_in_reader_if finished r
finished_silently finished r = search rules

silent_text : (r : GameState) (stage : Stage) → stage ≡ Between → HoldsText stage r no_part → HoldsText stage (silenced r) no_part
silent_text r stage at h = search rules

silent_agrees : (r : GameState) → Agrees r no_part → Agrees (silenced r) no_part
silent_agrees r h = record { stage = h.stage; pairs = h.pairs; text = silent_text r r.stage h.stage h.text }

pub reads_silently : (p : Profile) (c : Converter) → HasRead p c [] → HasRead p (writing_nothing c) []
reads_silently p c h = grind (arith, common_steps, silent_agrees, none_tried)

pub stands_silently : (c : Converter) → StillStands c (writing_nothing c)
stands_silently c p u b stands = record { known = λ writes. absurd (cc); lexer = stands.lexer; has_read = reads_silently p c stands.has_read }

pub sound_silently : (l : Standing) (r : GameState) (games : ℕ) (has_finished_game is_finished : Bool) (fault : Option Fault)
    → IsSound l r games has_finished_game is_finished fault → IsSound l (silenced r) games has_finished_game is_finished fault
sound_silently l r games has_finished_game is_finished fault sound = search rules

-- or where it takes the marker
pub reads_taking : (p : Profile) (c : Converter) → HasRead p c [] → HasRead (with_missing p takes_the_marker) (letting_missing_result_take_marker c) []
reads_taking p c h = grind (arith, common_steps, takes_the_marker, agrees_under, none_tried)

-- or where it takes the marker, and nothing is written
pub stands_by_marker : (c : Converter) → ReadsByMarker c (reading_by_marker c)
stands_by_marker c p u b stands =
    record { known = λ writes. absurd (cc); lexer = stands.lexer; has_read = reads_silently _ (letting_missing_result_take_marker c) (reads_taking p c stands.has_read) }
