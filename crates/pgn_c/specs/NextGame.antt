-- **Definition**: the next game of a text, as C gets it.
-- Letters: p is the profile, g a game, f a fault. `text` is the text of a call, and `from` the
-- place where it is read from. s is that text with white space in place of the bytes before this
-- place, and `piece` has its bytes from the place on. `found` is the result before its bytes
-- written are counted, or that of a reading that writes nothing. `before` and `after` are the bytes
-- that were written, before the call and after it, if they are kept; from `ConvertsNext` on they
-- are the bytes of the buffer.
use Rattle.std.specs.Prelude.{◌≡◌, ◌≢◌, ℕ, ◌+◌, ◌-◌, ◌^◌, ◌<◌, ◌≤◌, ◌==◌, ◌||◌, ◌&&◌, ◌⊎◌, Bool, List, [], ◌∷◌, ◌++◌, length, take, drop, slice_index_or, decimal, Option, Some, None}
use Rattle.std.specs.Io.KnownBytes.{Appends}
use Rattle.chess_rules.specs.declared.position.Parts.{Parts}
use Rattle.chess_text.specs.Fen.{fen_text}
use Rattle.pgn_lexer.specs.Bytes.{is_line_end}
use Rattle.pgn_lexer.specs.Decided.{decided}
use Rattle.pgn_lexer.specs.Tokens.{Token, EndsAt}
use Rattle.pgn_lexer.specs.TokensOf.{has_mark, tokens_of}
use Rattle.pgn_lexer.specs.WhiteSpace.{white_space}
use Rattle.pgn_game.specs.declared.marker.Marker.{Marker}
use Rattle.pgn_game.specs.declared.marker.Marker.TheVariants.{WhiteWins, BlackWins, Draw, Unknown}
use Rattle.pgn_game.specs.declared.mode.Mode.{Mode}
use Rattle.pgn_game.specs.declared.reason.Reason.{Reason}
use Rattle.pgn_game.specs.declared.reason.Reason.TheVariants.{WriteFault, InputTooLong}
use Rattle.pgn_game.specs.declared.reason.Fault.{Fault}
use Rattle.pgn_game.specs.games.Markers.{marker_text}
use Rattle.pgn_game.specs.games.Profile.{Profile, counting}
use Rattle.pgn_game.specs.games.FaultTable.{result_for}
use Rattle.pgn_game.specs.export.TagSection.{tag_section}
use Rattle.pgn_game.specs.public.Checked.{checked_profile}
use Rattle.pgn_game.specs.games.Reason.{number_of, line_of}
use Rattle.pgn_game.specs.games.Game.{Game}
use Rattle.pgn_game.specs.games.Levels.{plies_of, last_position}
use Rattle.pgn_game.specs.export.Text.{game_text}
use Rattle.pgn_game.specs.games.Progress.{read, due, position_at_fault}
use Rattle.pgn_game.specs.public.ConverterCalls.{AreShown, StopsWriting, within_limit}
use Rattle.pgn_game.specs.laws.GamesRestart.{games_read}
use Rattle.pgn_c.specs.declared.game_result.PgnGame.{PgnGame}
use Rattle.pgn_c.specs.Results.{IsFilled, padded, profile_in}

-- ---- the text from a place on

-- Whether this place is in the first column, where a percent sign begins an escape line (PGN 6): at
-- the start of the text, after a line end, or after a byte order mark at the start.
abbrev pub in_first_column : List ℕ → ℕ → Bool
in_first_column text from =
    (from == 0) || is_line_end (slice_index_or text (from - 1) 0) || ((from == 3) && has_mark text)

-- The text with white space in place of the bytes before the place, so that places count from the
-- first byte of the text.
abbrev pub text_from : List ℕ → ℕ → List ℕ
text_from text from = white_space from (in_first_column text from) ++ drop from text

-- ---- results

-- the FEN of the position, and zeros after it; without a position zeros alone
abbrev pub fen_bytes : Option Parts → List ℕ
fen_bytes (Some position) = padded 96 (fen_text position)
fen_bytes None = padded 96 []

-- the number of a marker in C
abbrev pub marker_number : Marker → ℕ
marker_number WhiteWins = 1
marker_number BlackWins = 2
marker_number Draw = 3
marker_number Unknown = 4

-- the status of a fault: 2 if the buffer is full, and else the one that is passed
abbrev pub status_for : ℕ → Reason → ℕ
status_for status WriteFault = 2
status_for status _ = status

-- the result that has this status, and nothing else
abbrev pub nothing : ℕ → PgnGame
nothing status =
    record { status = status; fault = 0; place = 0; written = 0; end = 0; marker_at = 0; plies = 0; reason_at = 0; marker = 0; message = padded 104 []; fen = padded 96 [] }

-- the result for a game, with the place of its marker and the place after it; no bytes written are
-- counted
abbrev pub game_result : Game → Marker → ℕ → ℕ → PgnGame
game_result game marker at end =
    record { status = 0; fault = 0; place = 0; written = 0; end = end; marker_at = at; plies = plies_of game; reason_at = 0; marker = marker_number marker; message = padded 104 []; fen = fen_bytes (Some (last_position game)) }

-- The result for a fault, with the position in which a move was rejected, if one was. No bytes
-- written are counted. The message is the line of the fault, in which the reason comes after
-- `byte N: `.
abbrev pub fault_result : ℕ → Fault → Option Parts → PgnGame
fault_result status f position =
    record { status = status; fault = number_of f.reason; place = f.at; written = 0; end = 0; marker_at = 0; plies = 0; reason_at = 7 + length (decimal f.at); marker = 0; message = padded 104 (line_of f); fen = fen_bytes position }

-- ---- what is found

-- the bytes decide these tokens: whatever comes after them, the tokens of the text begin with these
abbrev pub AreKnown : List ℕ → List Token → Type 0
AreKnown bytes tokens = (more : List ℕ) → (later : List Token) × (tokens_of (bytes ++ more) ≡ tokens ++ later)

-- A game: the first tokens of the text, of which `at` is its marker, are read into it. The bytes
-- before place 2^62 show them. If the text goes on after the marker, its bytes up to the one after
-- the marker decide them. The export text of the game is written. The status is 0.
pub record IsGame (p : Profile) (s : List ℕ) (result : PgnGame) (before after : Option (List ℕ)) : Type 0 where
  pub tokens : List Token
  pub at : Token
  pub marker : Marker
  pub game : Game
  pub shown : AreShown s (tokens ++ at ∷ [])
  pub none_before : games_read p tokens ≡ []
  pub passes : (read p (tokens ++ at ∷ [])).fault ≡ None
  pub one_game : games_read p (tokens ++ at ∷ []) ≡ game ∷ []
  pub is_marker : game.marker ≡ marker_text marker
  pub ends : EndsAt at.kind at.at result.end
  pub settled : result.end < length s → AreKnown (take (result.end + 1) s) (tokens ++ at ∷ [])
  pub wrote : Appends before after (game_text p game)
  pub is_result : result ≡ game_result game marker at.at result.end

-- No game is left, and no token is rejected. The text has at most 2^62 bytes. Nothing is written.
-- The status is 4.
pub record HasNoGame (p : Profile) (s : List ℕ) (result : PgnGame) (before after : Option (List ℕ)) : Type 0 where
  pub short : length s ≤ 2 ^ 62
  pub passes : (read p (tokens_of s)).fault ≡ None
  pub no_game : games_read p (tokens_of s) ≡ []
  pub wrote : Appends before after []
  pub is_result : result ≡ nothing 4

-- A token before the end of any game is rejected, and the bytes before place 2^62 decide it. What
-- is due for the tokens before it is written. The status is 1, since `WriteFault` is the reason of
-- no token.
pub record IsRejected (p : Profile) (s : List ℕ) (result : PgnGame) (before after : Option (List ℕ)) : Type 0 where
  pub fault : Fault
  pub tokens : List Token
  pub known : AreKnown (within_limit s) tokens
  pub rejected : (read p tokens).fault ≡ Some fault
  pub no_game : games_read p tokens ≡ []
  pub wrote : Appends before after (due p tokens)
  pub is_result : result ≡ fault_result (status_for 1 fault.reason) fault (position_at_fault (read p tokens))

-- The text has at most 2^62 bytes. They decide `tokens`, of which none is rejected, and none
-- finishes a game. These are all that they decide, if the piece has a byte. But if the text ends
-- here, one of its tokens is rejected with the fault, before any game is finished. What is due for
-- the tokens before that one is written. The status is 5.
pub record NeedsMore (p : Profile) (s piece : List ℕ) (result : PgnGame) (before after : Option (List ℕ)) : Type 0 where
  pub short : length s ≤ 2 ^ 62
  pub fault : Fault
  pub tokens : List Token
  pub known : AreKnown s tokens
  pub passes : (read p tokens).fault ≡ None
  pub none_yet : games_read p tokens ≡ []
  pub all_decided : 0 < length piece → tokens ≡ decided s
  pub rejected : (read p (tokens_of s)).fault ≡ Some fault
  pub no_game : games_read p (tokens_of s) ≡ []
  pub wrote : Appends before after (due p (tokens_of s))
  pub is_result : result ≡ fault_result (status_for 5 fault.reason) fault (position_at_fault (read p (tokens_of s)))

-- The buffer is full: more is due for the token at the place `at` and those before it. They are
-- tokens of the first game, and the bytes before place 2^62 show them. The status is 2.
pub record IsFull (p : Profile) (s : List ℕ) (result : PgnGame) (before after : Option (List ℕ)) : Type 0 where
  pub at : ℕ
  pub tokens : List Token
  pub shown : AreShown s tokens
  pub stops : StopsWriting p [] tokens at before after
  pub no_game : games_read p stops.front ≡ []
  pub is_result : result ≡ fault_result 2 (record { at = at; reason = WriteFault }) None

-- The text has a byte at place 2^62. Those before it, `bytes`, decide `tokens`, and these are all
-- that they decide, if one of the bytes is of the piece. None of these is rejected, and they finish
-- no game. What is due for them is written. The status is 1.
pub record IsTooLong (p : Profile) (s piece : List ℕ) (result : PgnGame) (before after : Option (List ℕ)) : Type 0 where
  pub bytes : List ℕ
  pub rest : List ℕ
  pub cut : s ≡ bytes ++ rest
  pub long : length bytes ≡ 2 ^ 62
  pub some : 0 < length rest
  pub tokens : List Token
  pub known : AreKnown bytes tokens
  pub all_decided : length rest < length piece → tokens ≡ decided bytes
  pub passes : (read p tokens).fault ≡ None
  pub no_game : games_read p tokens ≡ []
  pub wrote : Appends before after (due p tokens)
  pub is_result : result ≡ fault_result 1 (record { at = 2 ^ 62; reason = InputTooLong }) None

-- What is found in the text, and written.
-- - `game`: a game.
-- - `no_game`: no game is left.
-- - `rejected`: a token of the game is rejected, whatever comes after the text.
-- - `needs_more`: no token is rejected so far, but one is if the text ends here.
-- - `full`: the buffer is full.
-- - `too_long`: the text has a byte at place 2^62, and those before it hold no game.
pub data NextOf (p : Profile) (s piece : List ℕ) (result : PgnGame) (before after : Option (List ℕ)) : Type 0 where
  game : IsGame p s result before after → NextOf p s piece result before after
  no_game : HasNoGame p s result before after → NextOf p s piece result before after
  rejected : IsRejected p s result before after → NextOf p s piece result before after
  needs_more : NeedsMore p s piece result before after → NextOf p s piece result before after
  full : IsFull p s result before after → NextOf p s piece result before after
  too_long : IsTooLong p s piece result before after → NextOf p s piece result before after

-- ---- the calls

-- the profile of a call in which a missing Result counts as this marker
abbrev pub profile_counting : Mode → Marker → Profile
profile_counting mode missing = counting (profile_in mode) (marker_text missing)

-- The next game from the place on is converted into the buffer. What is written is at its front,
-- and its other bytes are as they were. If the status is 2, all of the buffer is written. The
-- result counts the bytes written.
pub record ConvertsNext (p : Profile) (text : List ℕ) (from : ℕ) (before after : List ℕ) (result : PgnGame) : Type 0 where
  pub found : PgnGame
  pub written : List ℕ
  pub next : NextOf p (text_from text from) (drop from text) found (Some []) (Some written)
  pub filled : IsFilled before after written
  pub full : result.status ≡ 2 → length written ≡ length before
  pub is_result : result ≡ record found { written = length written }

-- the next game is read; of what is written nothing is said
abbrev pub ReadsNext : Profile → List ℕ → ℕ → PgnGame → Type 0
ReadsNext p text from found = NextOf p (text_from text from) (drop from text) found None None

-- the profile of a call in which a missing Result takes the marker
abbrev pub profile_taking : Mode → Profile
profile_taking mode = checked_profile 64 32 mode

-- A game in which a missing Result takes the marker. The first tokens of the text are read into it
-- and into no other game, and the last of them, `at`, is its marker. The bytes before place 2^62
-- show them. The buffer begins with the export text of the game, and its other bytes are as they
-- were.
pub record HasGameByMarker (mode : Mode) (s : List ℕ) (before after : List ℕ) (result : PgnGame) : Type 0 where
  pub tokens : List Token
  pub at : Token
  pub marker : Marker
  pub game : Game
  pub shown : AreShown s (tokens ++ at ∷ [])
  pub none_before : games_read (profile_taking mode) tokens ≡ []
  pub passes : (read (profile_taking mode) (tokens ++ at ∷ [])).fault ≡ None
  pub one_game : games_read (profile_taking mode) (tokens ++ at ∷ []) ≡ game ∷ []
  pub is_marker : game.marker ≡ marker_text marker
  pub ends : EndsAt at.kind at.at result.end
  pub filled : IsFilled before after (game_text (profile_taking mode) game)
  pub is_result : result
      ≡ record (game_result game marker at.at result.end) { written = length (game_text (profile_taking mode) game) }

-- A missing Result takes the marker. So the game is first read, and nothing is written.
-- - If that finds a game, it is converted into the buffer, with a missing Result that counts as its
--   marker. With the status 0 it is the game of `HasGameByMarker`. In a text of at most 2^62 bytes
--   the only other status is 2.
-- - If not, nothing is written, and the result is that of the reading.
pub record ChecksNext (mode : Mode) (text : List ℕ) (from : ℕ) (before after : List ℕ) (result : PgnGame) : Type 0 where
  pub found : PgnGame
  pub reads : ReadsNext (profile_taking mode) text from found
  pub not_full : found.status ≢ 2
  pub is_game : found.status ≡ 0 → (marker : Marker) → found.marker ≡ marker_number marker
      → ConvertsNext (profile_counting mode marker) text from before after result
  pub takes : result.status ≡ 0 → HasGameByMarker mode (text_from text from) before after result
  pub converts : found.status ≡ 0 → length text ≤ 2 ^ 62 → (result.status ≡ 0) ⊎ (result.status ≡ 2)
  pub not_found : found.status ≢ 0 → (after ≡ before) × (result ≡ found)

-- The next game in a mode. If `missing_result` is 0, a missing Result counts as `*`; if it is 1, it
-- takes the marker. With another number the status is 3. With a place after the end of the text or
-- above 2^62 it is 6. In both cases nothing is written.
pub record NextGame (mode : Mode) (missing_result : ℕ) (text : List ℕ) (from : ℕ) (before after : List ℕ) (result : PgnGame) : Type 0 where
  pub no_mode : 1 < missing_result → (after ≡ before) × (result ≡ nothing 3)
  pub bad_place : missing_result ≤ 1 → (length text < from) ⊎ (2 ^ 62 < from)
      → (after ≡ before) × (result ≡ nothing 6)
  pub counts_as_unknown : missing_result ≡ 0 → from ≤ length text → from ≤ 2 ^ 62
      → ConvertsNext (profile_counting mode Unknown) text from before after result
  pub takes_the_marker : missing_result ≡ 1 → from ≤ length text → from ≤ 2 ^ 62
      → ChecksNext mode text from before after result

-- the same for a mode, if there is one; without one the status is 3, and nothing is written
abbrev pub NextGameIn : Option Mode → ℕ → List ℕ → ℕ → List ℕ → List ℕ → PgnGame → Type 0
NextGameIn (Some mode) missing_result text from before after result = NextGame mode missing_result text from before after result
NextGameIn None missing_result text from before after result = (after ≡ before) × (result ≡ nothing 3)

-- ---- the tag section of the next game

-- the tag section of a game, with the empty line after it
abbrev pub section_of : Profile → Game → List ℕ
section_of p g = tag_section p.mode (result_for p.missing_result g.marker) g.pairs

-- The result if the buffer is full before the section is written: the status is 2, the fault is
-- that a write failed, and the place is that of the game's marker.
abbrev pub section_full : PgnGame → ℕ → PgnGame
section_full found written =
    record (fault_result 2 (record { at = found.marker_at; reason = WriteFault }) None) { written = written }

-- The section was written. The buffer begins with as many of its bytes as have room, and its other
-- bytes are as they were. The result is the one that was found if all of them have room, and else
-- that the buffer is full.
pub record WritesSection (section : List ℕ) (found : PgnGame) (before after : List ℕ) (result : PgnGame) : Type 0 where
  pub filled : IsFilled before after (take (length before) section)
  pub fits : length section ≤ length before → result ≡ record found { written = length section }
  pub full : length before < length section → result ≡ section_full found (length before)

-- if a game was found, its section is written; if not, nothing is, and the result is what was found
abbrev pub WritesTags : {p : Profile} {s piece : List ℕ} {found : PgnGame} {old new : Option (List ℕ)}
    → NextOf p s piece found old new → List ℕ → List ℕ → PgnGame → Type 0
WritesTags {p} {found = found} (NextOf.game is) before after result = WritesSection (section_of p is.game) found before after result
WritesTags {found = found} _ before after result = (after ≡ before) × (result ≡ found)

-- The next game is read, and its tag section is written. The reading writes nothing, so its status
-- is never 2.
pub record ReadsTags (p : Profile) (text : List ℕ) (from : ℕ) (before after : List ℕ) (result : PgnGame) : Type 0 where
  pub found : PgnGame
  pub reads : ReadsNext p text from found
  pub not_full : found.status ≢ 2
  pub writes : WritesTags reads before after result

-- The next game in a mode, of which the tag section is written. If `missing_result` is 0, a missing
-- Result counts as `*`; if it is 1, it takes the marker. With another number the status is 3. With
-- a place after the end of the text or above 2^62 it is 6. In both cases nothing is written.
pub record ReadGame (mode : Mode) (missing_result : ℕ) (text : List ℕ) (from : ℕ) (before after : List ℕ) (result : PgnGame) : Type 0 where
  pub no_mode : 1 < missing_result → (after ≡ before) × (result ≡ nothing 3)
  pub bad_place : missing_result ≤ 1 → (length text < from) ⊎ (2 ^ 62 < from)
      → (after ≡ before) × (result ≡ nothing 6)
  pub counts_as_unknown : missing_result ≡ 0 → from ≤ length text → from ≤ 2 ^ 62
      → ReadsTags (profile_counting mode Unknown) text from before after result
  pub takes_the_marker : missing_result ≡ 1 → from ≤ length text → from ≤ 2 ^ 62
      → ReadsTags (profile_taking mode) text from before after result

-- the same for a mode, if there is one; without one the status is 3, and nothing is written
abbrev pub ReadGameIn : Option Mode → ℕ → List ℕ → ℕ → List ℕ → List ℕ → PgnGame → Type 0
ReadGameIn (Some mode) missing_result text from before after result = ReadGame mode missing_result text from before after result
ReadGameIn None missing_result text from before after result = (after ≡ before) × (result ≡ nothing 3)
