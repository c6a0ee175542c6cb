-- **Definition**: what a contract sees of `Items`, and what each call does to them.
-- Letters: p is the profile, u are the bytes that the source has given before a call, and `more`
-- those that it gives during it. `given` is what was given before a call. `left` are the bytes that
-- the source has left, if it reports them; `left_old` and `left_new` are these before a call and
-- after it. i are items, c is a current game, f is a fault.
use Rattle.std.specs.Prelude.{◌≡◌, ℕ, ◌+◌, ◌-◌, ◌*◌, ◌^◌, ◌<◌, ◌≤◌, ◌⊎◌, Bool, true, false, ◌||◌, IsTrue, is_some, List, [], ◌∷◌, ◌++◌, length, Option, None, Some, IsSomeAnd, slice_get, unwrap_or, option_map, Result, Ok, Err}
use Rattle.std.specs.Io.KnownBytes.{Consumes, IsAtEnd}
use Rattle.chess_rules.specs.declared.position.Move.{Move}
use Rattle.chess_rules.specs.declared.position.Parts.{Parts}
use Rattle.chess_rules.specs.Legal.{legal}
use Rattle.pgn_layout.specs.Device.{Device, one_more}
use Rattle.pgn_lexer.specs.Tokens.{EndsAt, Token}
use Rattle.pgn_lexer.specs.TokensOf.{tokens_of}
use Rattle.pgn_lexer.specs.Decided.{decided}
use Rattle.pgn_lexer.specs.Standing.{Standing, coming, waiting}
use Rattle.pgn_lexer.specs.Stands.{HasLeft}
use Rattle.pgn_game.specs.declared.item.Item.{Item as CodeItem}
use Rattle.pgn_game.specs.declared.item.Item.TheVariants as items
use Rattle.pgn_game.specs.declared.reason.Fault.{Fault}
use Rattle.pgn_game.specs.declared.reason.Reason.TheVariants.{ReadFault, InputTooLong}
use Rattle.pgn_game.specs.games.FaultTable.{marker_of, result_for}
use Rattle.pgn_game.specs.games.Game as games
use Rattle.pgn_game.specs.games.Levels.{here, levels_of, start_of}
use Rattle.pgn_game.specs.games.Markers.{marker_text}
use Rattle.chess_text.specs.San.{MarkPairs, disambiguation_pairs, san}
use Rattle.chess_text.specs.Uci.{uci}
use Rattle.pgn_game.specs.export.TagSection.{exported, tag_section}
use Rattle.pgn_game.specs.games.Pairs.{Pair, value_of}
use Rattle.pgn_game.specs.games.Profile.{Missing, Profile, known_result, takes_the_marker, with_missing}
use Rattle.pgn_game.specs.games.Progress.{position_at_fault, read}
use Rattle.pgn_game.specs.public.ConverterCalls.{AreNext, Converter, HasRead, reported_position, within_limit}
use Rattle.pgn_game.specs.public.GamesCalls.{Games, HasReadAll, HasReadWithin}
use Rattle.pgn_game.specs.public.Given.{Given, Shown, given_of, item, marker, shown, tags}
use Rattle.pgn_game.specs.steps.Movetext.{HoldsItems}
use Rattle.pgn_game.specs.steps.GameState.{GameState}

-- ---- what was given so far

-- a marker
abbrev pub is_marker_item : Option CodeItem → Bool
is_marker_item (Some (items.Marker m)) = true
is_marker_item _ = false

-- The game whose items are given: its reader, of which nothing is written, the number of games that
-- were finished, the word that was read last, the item given last, if the last call gave one, and
-- the one that was read and is given next.
pub record Current : Type 0 where
  pub reading : GameState
  pub games : ℕ
  pub word : List ℕ
  pub last : Option CodeItem
  pub pending : Option CodeItem

-- what an item of the code stands for
abbrev pub given_as : Current → CodeItem → Given
given_as c items.Tags = tags c.reading.tags.held
given_as c (items.Move m) = item (games.move m)
given_as c (items.Glyph n) = item (games.glyph n)
given_as c items.CommentOpen = item games.comment_open
given_as c items.Word = item (games.word c.word)
given_as c items.CommentClose = item games.comment_close
given_as c items.Open = item games.open_variation
given_as c items.Close = item games.close_variation
given_as c (items.Marker m) = marker (marker_text m)

abbrev pub given_if : Current → Option CodeItem → List Given
given_if c None = []
given_if c (Some i) = given_as c i ∷ []

-- a marker was given last, or is given next
abbrev pub has_read_marker : Current → Bool
has_read_marker c = is_marker_item c.last || is_marker_item c.pending

-- Each marker among these tokens ends at this place.
abbrev pub MarkersEndAt : ℕ → List Token → Type 0
MarkersEndAt place [] = Unit {0}
MarkersEndAt place (t ∷ ts) = (IsTrue (is_some (marker_of t.kind)) → EndsAt t.kind t.at place) × MarkersEndAt place ts

-- The last of the tokens is a marker, and ends at this place.
pub record EndsWithMarker (tokens : List Token) (place : ℕ) : Type 0 where
  pub before : List Token
  pub last : Token
  pub is_last : tokens ≡ before ++ last ∷ []
  pub is_marker : IsTrue (is_some (marker_of last.kind))
  pub ends : EndsAt last.kind last.at place

-- what was read and is given next
abbrev pub given_next : Current → List Given
given_next c = given_if c c.pending

-- the lexer, the current game, the bytes that were read and are not used yet, whether the source is
-- read no more, since it has ended or there is a fault, whether all was given, and the fault
pub record Items : Type 0 where
  pub lexer : Standing
  pub current : Current
  pub unused : List ℕ
  pub has_read_all : Bool
  pub is_finished : Bool
  pub fault : Option Fault

-- they read as a converter does that writes nothing
abbrev pub converter_of : Items → Converter
converter_of i = record {
  lexer = i.lexer;
  reading = i.current.reading;
  games = i.current.games;
  just_finished = None;
  is_finished = i.is_finished;
  fault = i.fault;
}

abbrev pub games_of_items : Items → Games
games_of_items i = record { converter = converter_of i; unused = i.unused }

-- The source is at its end, so u is the whole text, and all its bytes are used. The lexer still
-- gives the rest of its tokens: a marker among them ends with the text.
pub record HasRest (p : Profile) (left : Option (List ℕ)) (u : List ℕ) (i : Items) (tokens : List Token) : Type 0 where
  pub at_end : IsAtEnd left
  pub short : length u ≤ 2 ^ 62
  pub place : i.lexer.count ≡ length u
  pub rest : HasLeft i.lexer u tokens
  pub markers : MarkersEndAt (length u) (coming i.lexer [])
  pub has_read : HasRead p (converter_of i) tokens
  pub not_finished : i.is_finished ≡ false

-- The source has given the bytes u, and of these the tokens were read: none is rejected.
-- - `within`: the source has not ended. The tokens are those that the used bytes decide.
-- - `behind`: it has ended.
-- - `at_end`: all bytes of the text are used, all its tokens were read, and no game is begun after
--   them.
pub data ItemsRead (p : Profile) (left : Option (List ℕ)) (u : List ℕ) (i : Items) (tokens : List Token) : Type 0 where
  within : i.has_read_all ≡ false → HasReadWithin p u (games_of_items i) tokens → ItemsRead p left u i tokens
  behind : i.has_read_all ≡ true → HasRest p left u i tokens → ItemsRead p left u i tokens
  at_end : i.is_finished ≡ true → i.lexer.count ≡ length u → HasReadAll p left u (games_of_items i) tokens → ItemsRead p left u i tokens

-- the position after the items given: without the item that was read and is given next
abbrev pub position_without : Option CodeItem → GameState → Parts
position_without (Some (items.Move m)) reading =
    unwrap_or reading.text.levels.current.before reading.text.levels.current.position
position_without _ reading = reading.text.levels.current.position

abbrev pub current_position : Current → Parts
current_position c = position_without c.pending c.reading

-- The value of a missing Result after the item given last. If it takes the marker, it is empty
-- until the marker is given.
abbrev pub result_after : Option CodeItem → Missing → List ℕ
result_after (Some (items.Marker m)) missing = result_for missing (marker_text m)
result_after _ missing = known_result missing

abbrev pub shown_result : Current → List ℕ
shown_result c = result_after c.last c.reading.profile.missing_result

-- What can be asked of the game of which something was given last: the value of a name in its tag
-- section, its tag section, and the position after the items given. Without one there is nothing.
abbrev pub shown_value : Current → List ℕ → Option (List ℕ)
shown_value c name = elim c.last [
  | None ↦ None
  | Some i ↦ value_of (exported c.reading.profile.mode (shown_result c) c.reading.tags.held) name
]

abbrev pub shown_section : Current → List ℕ
shown_section c = elim c.last [
  | None ↦ []
  | Some i ↦ tag_section c.reading.profile.mode (shown_result c) c.reading.tags.held
]

-- the pair of its tag section that has so many before it
abbrev pub shown_pair : Current → ℕ → Option Pair
shown_pair c index = elim c.last [
  | None ↦ None
  | Some i ↦ slice_get (exported c.reading.profile.mode (shown_result c) c.reading.tags.held) index
]

abbrev pub shown_position : Current → Option Parts
shown_position c = elim c.last [ None ↦ None | Some i ↦ Some (current_position c) ]

-- the move that was given last, if a move was
abbrev pub shown_move : Option CodeItem → Option Move
shown_move (Some (items.Move m)) = Some m
shown_move _ = None

-- the position before it
abbrev pub position_before_move : Current → Option Parts
position_before_move c = elim (shown_move c.last) [ None ↦ None | Some m ↦ c.reading.text.levels.current.before ]

-- its text in SAN and in UCI
abbrev pub shown_san : Current → Option (List ℕ)
shown_san c = elim (shown_move c.last) [ None ↦ None | Some m ↦ option_map (λ before. san before m) c.reading.text.levels.current.before ]

abbrev pub shown_uci : Current → Option (List ℕ)
shown_uci c = option_map uci (shown_move c.last)

-- The number of open variations after the items given. Something is given next only behind the
-- tags, where none is open. Without a game there is none.
abbrev pub depth_behind : (last next : Option CodeItem) → GameState → ℕ
depth_behind None next reading = 0
depth_behind (Some i) None reading = length reading.text.levels.around
depth_behind (Some i) (Some next) reading = 0

abbrev pub shown_depth : Current → ℕ
shown_depth c = depth_behind c.last c.pending c.reading

-- the text of the word that was given last, if a word was
abbrev pub word_behind : Option CodeItem → List ℕ → List ℕ
word_behind (Some items.Word) word = word
word_behind _ word = []

abbrev pub shown_word : Current → List ℕ
shown_word c = word_behind c.last c.word

-- the number of games whose marker was given
abbrev pub games_before_next : Option CodeItem → ℕ → ℕ
games_before_next (Some (items.Marker m)) games = games - 1
games_before_next _ games = games

abbrev pub shown_games : Current → ℕ
shown_games c = games_before_next c.pending c.games

-- A move that was given last is legal in the position before it, and leads to the current one.
abbrev pub IsLegalIfMove : Current → Type 0
IsLegalIfMove c =
    (m : Move) → shown_move c.last ≡ Some m
    → IsSomeAnd (position_before_move c) (λ before. legal before m ≡ Some c.reading.text.levels.current.position)

-- The current game is the one of which something was given last, with its pairs, and at the place
-- after its items.
pub record IsShown (c : Current) (s : Shown) : Type 0 where
  pub pairs : c.reading.tags.held ≡ s.pairs
  pub position : current_position c ≡ here (start_of s.pairs) (levels_of s.items)
  pub depth : shown_depth c ≡ length (levels_of s.items).around

-- The same with the item that was read and is given next: the reader holds all these items.
pub record IsHeld (c : Current) (s : Shown) : Type 0 where
  pub pairs : c.reading.tags.held ≡ s.pairs
  pub text : HoldsItems None (start_of s.pairs) s.items c.reading.text []

-- Something is given next only behind the tags.
abbrev pub IsBehindTags : Option CodeItem → Option CodeItem → Type 0
IsBehindTags None last = Unit {0}
IsBehindTags (Some i) last = last ≡ Some items.Tags

-- The source has given the bytes u, and of the text so far this was given: what its tokens are
-- read into, but for an item that is given next. A marker that was given last ends where the next
-- byte is.
pub record HaveGiven (p : Profile) (left : Option (List ℕ)) (u : List ℕ) (i : Items) (given : List Given) : Type 0 where
  pub tokens : List Token
  pub reads : ItemsRead p left u i tokens
  pub whole : given_of (read p tokens).progress ≡ given ++ given_next i.current
  pub behind : IsBehindTags i.current.pending i.current.last
  pub shows : IsTrue (is_some i.current.last) → IsSomeAnd (shown given) (IsShown i.current)
  pub holds : IsTrue (is_some i.current.last) → IsSomeAnd (shown (given ++ given_next i.current)) (IsHeld i.current)
  pub marker_ends : IsTrue (has_read_marker i.current) → EndsWithMarker tokens i.lexer.count

-- ---- a missing Result

-- the same game and the same items, but from now on a missing Result takes the marker
abbrev pub current_by_marker : Current → Current
current_by_marker c = record c { reading = record c.reading { profile = with_missing c.reading.profile takes_the_marker } }

abbrev pub items_by_marker : Items → Items
items_by_marker i = record i { current = current_by_marker i.current }

-- What `take_marker_for_missing_result` does. What was given so far is also what is given of the
-- text so far if a missing Result takes the marker.
abbrev pub GiveByMarker : Items → Items → Type 0
GiveByMarker old new =
    (p : Profile) (left : Option (List ℕ)) (u : List ℕ) (given : List Given)
    → HaveGiven p left u old given → HaveGiven (with_missing p takes_the_marker) left u new given

-- ---- what a call of `next` does

-- If the call read bytes, those known before the last read, of 4,096 bytes at most, decide nothing
-- more. So no item is held back that the bytes read before the call decide, and the source is not
-- read ahead.
abbrev pub ReadsNoSooner : Profile → List ℕ → List ℕ → List Given → Type 0
ReadsNoSooner p u more given =
    (more ≡ [])
    ⊎ ((front : List ℕ) × (back : List ℕ) × (more ≡ front ++ back) × (length back ≤ 4096)
    × (given_of (read p (decided (u ++ front))).progress ≡ given))

-- An item more was given. If the source has not ended, the bytes before place 2^62 decide it.
pub record GivesItem (p : Profile) (u : List ℕ) (given : List Given) (left_old left_new : Option (List ℕ)) (new : Items) (i : CodeItem) : Type 0 where
  pub more : List ℕ
  pub consumed : Consumes left_old left_new more
  pub have_given : HaveGiven p left_new (u ++ more) new (given ++ given_as new.current i ∷ [])
  pub last : new.current.last ≡ Some i
  pub no_sooner : ReadsNoSooner p u more given

-- The source has ended, and all that its text is read into was given before. All its bytes are
-- used.
pub record GivesNoItem (p : Profile) (u : List ℕ) (given : List Given) (left_old left_new : Option (List ℕ)) (new : Items) : Type 0 where
  pub more : List ℕ
  pub consumed : Consumes left_old left_new more
  pub all : HasReadAll p left_new (u ++ more) (games_of_items new) (tokens_of (u ++ more))
  pub place : new.lexer.count ≡ length (u ++ more)
  pub last : new.current.last ≡ None
  pub none_next : new.current.pending ≡ None
  pub whole : given_of (read p (tokens_of (u ++ more))).progress ≡ given

-- Why a call gives no item though the text goes on, after all items before were given.
-- - `at_token`: a token is rejected that the bytes before place 2^62 decide.
-- - `at_end`: a token of the whole text is.
-- - `unread`: a read failed.
-- - `too_long`: the source has given the byte at place 2^62.
pub data ItemsStop (p : Profile) (u : List ℕ) (given : List Given) (source : Device) : Fault → Type 0 where
  at_token : (f : Fault) (tokens : List Token) → AreNext (within_limit u) tokens → (read p tokens).fault ≡ Some f
      → given_of (read p tokens).progress ≡ given → ItemsStop p u given source f
  at_end : (f : Fault) → IsAtEnd source.after → length u ≤ 2 ^ 62 → (read p (tokens_of u)).fault ≡ Some f
      → given_of (read p (tokens_of u)).progress ≡ given → ItemsStop p u given source f
  unread : source.failures_after ≡ one_more source.failures → length u ≤ 2 ^ 62 → (read p (decided u)).fault ≡ None
      → given_of (read p (decided u)).progress ≡ given
      → ItemsStop p u given source (record { at = length u; reason = ReadFault })
  too_long : (front rest : List ℕ) → u ≡ front ++ rest → length front ≡ 2 ^ 62 → 0 < length rest
      → (read p (decided front)).fault ≡ None → given_of (read p (decided front)).progress ≡ given
      → ItemsStop p u given source (record { at = 2 ^ 62; reason = InputTooLong })

-- the position in which a move was rejected, if reading stopped at a token that is one
abbrev pub position_at_items_stop : {p : Profile} {u : List ℕ} {given : List Given} {source : Device} {f : Fault} → ItemsStop p u given source f → Option Parts
position_at_items_stop {p} (at_token f tokens next fault whole) = position_at_fault (read p tokens)
position_at_items_stop {p} {u} (at_end f ended short fault whole) = position_at_fault (read p (tokens_of u))
position_at_items_stop _ = None

-- the position in which a move was rejected, if that is the fault
abbrev pub refused_items_position : Items → Option Parts
refused_items_position i = elim i.fault [ None ↦ None | Some f ↦ reported_position i.current.reading f.reason ]

-- Then no item was given last, and none is given next. If a move was rejected, the game is still in
-- the position in which it was.
pub record GivesFault (p : Profile) (u : List ℕ) (given : List Given) (source : Device) (new : Items) (f : Fault) : Type 0 where
  pub more : List ℕ
  pub consumed : Consumes source.before source.after more
  pub stops : ItemsStop p (u ++ more) given source f
  pub no_sooner : ReadsNoSooner p u more given
  pub kept : new.fault ≡ Some f
  pub position : refused_items_position new ≡ position_at_items_stop stops
  pub last : new.current.last ≡ None
  pub none_next : new.current.pending ≡ None

abbrev pub AfterItem : Profile → List ℕ → List Given → Device → Items → Result (Option CodeItem) Fault → Type 0
AfterItem p u given source new (Ok (Some i)) = GivesItem p u given source.before source.after new i
AfterItem p u given source new (Ok None) = GivesNoItem p u given source.before source.after new
AfterItem p u given source new (Err f) = GivesFault p u given source new f

-- What `next` does to items that have read any bytes of the source, which is seen as a device.
abbrev pub ReadsItem : Items → Items → Result (Option CodeItem) Fault → Device → Type 0
ReadsItem old new result source =
    (p : Profile) (u : List ℕ) (given : List Given) → HaveGiven p source.before u old given
    → AfterItem p u given source new result

-- The source is not touched where the item is given that was read before, nor once it has ended.
abbrev pub LeavesSource : {R : Type 0} → Items → R → R → Type 0
LeavesSource old source_old source_new =
    (IsTrue (is_some old.current.pending) → source_new ≡ source_old) × (old.has_read_all ≡ true → source_new ≡ source_old)

-- The pairs that are tried for the mark and against rivals of the move given last are counted.
abbrev pub CountsSan : Current → ℕ → ℕ → Type 0
CountsSan c old new = elim (shown_move c.last) [
  | None ↦ new ≡ old
  | Some m ↦ IsSomeAnd c.reading.text.levels.current.before
      (λ before. MarkPairs c.reading.text.levels.current.position (old + disambiguation_pairs before m) new)
]

-- After a fault each call returns it again and does not touch the source.
abbrev pub ItemsAgain : {R : Type 0} → Items → Items → Result (Option CodeItem) Fault → R → R → Type 0
ItemsAgain old new result source_old source_new =
    (f : Fault) → old.fault ≡ Some f → old.current.pending ≡ None
    → (result ≡ Err f) × (new.fault ≡ Some f) × (new.current.pending ≡ None) × (source_new ≡ source_old)

-- So it does after the end, where no item is left.
abbrev pub ItemsAtEnd : {R : Type 0} → Items → Items → Result (Option CodeItem) Fault → R → R → Type 0
ItemsAtEnd old new result source_old source_new =
    old.fault ≡ None → old.is_finished ≡ true → old.current.pending ≡ None
    → (result ≡ Ok None) × (new.is_finished ≡ true) × (new.current.pending ≡ None) × (source_new ≡ source_old)

-- ---- how many items are still to come

-- a bound on the tokens that a lexer still gives
abbrev pub tokens_ahead : Standing → ℕ
tokens_ahead l = 4 * (2 ^ 62 - l.count) + waiting l

abbrev pub one_if : Option CodeItem → ℕ
one_if None = 0
one_if (Some i) = 1

-- a token gives two items at most
abbrev pub ahead_unless : (is_finished : Bool) → (tokens : ℕ) → ℕ
ahead_unless true tokens = 0
ahead_unless false tokens = 2 + 2 * tokens

-- A bound on the items that are still to come.
abbrev pub items_ahead : Items → ℕ
items_ahead i = ahead_unless i.is_finished (tokens_ahead i.lexer) + one_if i.current.pending

abbrev pub IsLessIfItem : {E : Type 0} → (before after : ℕ) → Result (Option CodeItem) E → Type 0
IsLessIfItem before after (Ok (Some i)) = after < before
IsLessIfItem before after _ = Unit {0}

-- Each item lowers it.
abbrev pub LowersAhead : {E : Type 0} → Items → Items → Result (Option CodeItem) E → Type 0
LowersAhead old new result = IsLessIfItem (items_ahead old) (items_ahead new) result
