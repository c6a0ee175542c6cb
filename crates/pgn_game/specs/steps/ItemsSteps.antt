-- **Bookkeeping**: what a token does to the game whose items are given, in a piece and at the end.
-- Letters: p is the profile, u the bytes used so far, `given` the tokens read before a call, and
-- `tokens` those read when it ends. k is the kind of a token, f a fault. `old` and `new` are the
-- state before a call and after it.
use Rattle.std.specs.Prelude.{◌≡◌, ℕ, ◌+◌, ◌*◌, ◌<◌, ◌≤◌, ◌^◌, ◌⊎◌, Bool, true, false, IsTrue, is_some, List, [], ◌∷◌, ◌++◌, length, take, drop, Option, None, Some, IsSomeAnd, IfOk, Result, Ok, Err}
use Rattle.std.specs.Io.KnownBytes.{Consumes, IsAtEnd, Keeps}
use Rattle.pgn_layout.specs.Device.{Device}
use Rattle.pgn_lexer.specs.Tokens.{Kind, Token}
use Rattle.pgn_lexer.specs.TokensOf.{tokens_of}
use Rattle.pgn_lexer.specs.Decided.{decided}
use Rattle.pgn_lexer.specs.Standing.{Standing, waiting}
use Rattle.pgn_lexer.specs.Stands.{StandsAfter, HasLeft, IsDecided, first}
use Rattle.pgn_game.specs.declared.event.Event.{Event}
use Rattle.pgn_game.specs.declared.event.Event.TheVariants as events
use Rattle.pgn_game.specs.declared.item.Item.{Item as CodeItem}
use Rattle.pgn_game.specs.declared.item.Item.TheVariants as items
use Rattle.pgn_game.specs.declared.items.ItemsState.{ItemsState}
use Rattle.pgn_game.specs.declared.items.ItemsState.TheVariants.{Failed, Finished as AtEnd, Reading}
use Rattle.pgn_game.specs.declared.reason.Fault.{Fault}
use Rattle.pgn_game.specs.declared.reason.Reason.{Reason}
use Rattle.pgn_game.specs.declared.reason.Reason.TheVariants.{InputTooLong, ReadFault}
use Rattle.pgn_game.specs.games.FaultTable.{marker_of}
use Rattle.pgn_game.specs.games.Game.{Item, Part}
use Rattle.pgn_game.specs.games.Levels.{start_of}
use Rattle.pgn_game.specs.games.Profile.{Profile}
use Rattle.pgn_game.specs.games.Progress.{due, next, position_at_fault, read}
use Rattle.pgn_game.specs.export.Text.{text_of}
use Rattle.pgn_game.specs.public.ConverterCalls.{AreNext, Converter, HasRead, IsSound, reported_position, within_limit}
use Rattle.pgn_game.specs.public.Given.{Given, given_of, given_of_next, given_of_part, given_with, marker, shown}
use Rattle.pgn_game.specs.public.GamesCalls.{HasReadWithin}
use Rattle.pgn_game.specs.public.ItemsCalls.{Current, EndsWithMarker, GivesFault, GivesItem, GivesNoItem, HasRest, HaveGiven, IsBehindTags, IsHeld, Items, LowersAhead, ReadsItem, ReadsNoSooner, games_of_items, given_as, given_next, has_read_marker}
use Rattle.pgn_game.specs.steps.Judged.{IsPlayed}
use Rattle.pgn_game.specs.steps.Movetext.{HoldsItems}
use Rattle.pgn_game.specs.steps.TokenInMovetext.{has_whole_pairs}
use Rattle.pgn_game.specs.steps.TokenTaken.{TakesToken, unused}
use Rattle.pgn_game.specs.steps.GameState.{Accepted, Agrees, Finished, GameState, restarted}

-- a move was just played
abbrev pub IsPlayedItem : GameState → Option CodeItem → Type 0
IsPlayedItem reading (Some (items.Move m)) = IsPlayed reading m
IsPlayedItem reading _ = Unit {0}

-- What always holds of the current game. A move that was given, or is given next, was just played.
-- Something is given next only behind the tags. While an item was given last, the pairs are whole.
pub record IsSoundGame (c : Current) : Type 0 where
  pub last : c.pending ≡ None → IsPlayedItem c.reading c.last
  pub pending : IsPlayedItem c.reading c.pending
  pub behind : IsBehindTags c.pending c.last
  pub whole : IsTrue (is_some c.last) → IsTrue (has_whole_pairs c.reading.stage)

-- the item of the code that an event gives, if it gives one
abbrev pub item_meant : Event → Option CodeItem
item_meant events.Number = None
item_meant (events.Move m pairs) = Some (items.Move m)
item_meant (events.Glyph n) = Some (items.Glyph n)
item_meant events.CommentOpen = Some items.CommentOpen
item_meant (events.Word text) = Some items.Word
item_meant events.CommentClose = Some items.CommentClose
item_meant events.Open = Some items.Open
item_meant events.Close = Some items.Close
item_meant (events.Marker m) = Some (items.Marker m)

-- The tags are given first, where movetext begins, and the item is given next.
abbrev pub given_first : (begun : Bool) → Option CodeItem → Option CodeItem
given_first true i = i
given_first false i = Some items.Tags

abbrev pub given_second : (begun : Bool) → Option CodeItem → Option CodeItem
given_second true i = None
given_second false i = i

-- how many games an answer finishes
abbrev pub games_added : Result Accepted Reason → ℕ
games_added (Ok Finished) = 1
games_added _ = 0

-- the marker, if there is one
abbrev pub marker_given : Option (List ℕ) → List Given
marker_given None = []
marker_given (Some m) = marker m ∷ []

-- An item was given for a token after this part, and perhaps another is given next. With both the
-- game has these items, and it may have ended.
pub record GivesMore (part : Part) (k : Kind) (new : Current) (i : CodeItem) : Type 0 where
  pub given : given_of_next (next part k) ≡ given_of_part part ++ given_as new i ∷ given_next new
  pub items : List Item
  pub ended : Option (List ℕ)
  pub whole : given_of_next (next part k) ≡ given_with part.pairs items ++ marker_given ended
  pub pairs : new.reading.tags.held ≡ part.pairs
  pub text : HoldsItems None (start_of part.pairs) items new.reading.text []

-- the item for a token after this part; without one nothing is given
abbrev pub GivesFor : Part → Kind → Current → Result (Option CodeItem) Reason → Type 0
GivesFor part k new (Ok (Some i)) = GivesMore part k new i
GivesFor part k new (Ok None) = given_of_next (next part k) ≡ given_of_part part
GivesFor part k new (Err reason) = Unit {0}

-- The item that a call returns was given last. Without one nothing was, and nothing is next.
abbrev pub LastIs : {E : Type 0} → Current → Result (Option CodeItem) E → Type 0
LastIs new (Ok (Some i)) = (new.last ≡ Some i) × IsBehindTags new.pending new.last
LastIs new (Ok None) = (new.last ≡ None) × (new.pending ≡ None)
LastIs new (Err e) = (new.last ≡ None) × (new.pending ≡ None)

-- an item or none is an answer, and an error is this error
abbrev pub IsAnswer : Result (Option CodeItem) Reason → Result Accepted Reason → Type 0
IsAnswer (Ok item) (Ok accepted) = Unit {0}
IsAnswer (Err reason) answer = answer ≡ Err reason
IsAnswer _ _ = ⊥

-- a marker was read if the token is one
abbrev pub IsMarkerIfRead : Kind → Current → Type 0
IsMarkerIfRead k new = IsTrue (has_read_marker new) → IsTrue (is_some (marker_of k))

-- What taking a token does to the current game.
pub record TakesItem (old : Current) (k : Kind) (new : Current) (result : Result (Option CodeItem) Reason) : Type 0 where
  pub answer : Result Accepted Reason
  pub is : IsAnswer result answer
  pub takes : TakesToken old.reading k new.reading answer (unused None 0)
  pub games : new.games ≡ old.games + games_added answer
  pub gives : (part : Part) → Agrees old.reading part → GivesFor part k new result
  pub last : LastIs new result
  pub is_marker : IsMarkerIfRead k new

-- ---- a token of a piece, or behind the last one

-- the converter that reads as these do
abbrev pub reads_as : Standing → Current → Converter
reads_as lexer c = record {
  lexer = lexer;
  reading = c.reading;
  games = c.games;
  just_finished = None;
  is_finished = false;
  fault = None;
}

-- More tokens were read, and this was given.
pub record GivesOn (p : Profile) (given tokens : List Token) (lexer : Standing) (new : Current) (more : List Given) : Type 0 where
  pub has_read : HasRead p (reads_as lexer new) tokens
  pub gives : given_of (read p tokens).progress ≡ given_of (read p given).progress ++ more

-- The game is shown, whatever was given before it.
pub record HoldsShown (all : List Given) (new : Current) : Type 0 where
  pub holds : IsSomeAnd (shown all) (IsHeld new)

abbrev pub AfterToken : Profile → List Token → List Token → Standing → Current → Option CodeItem → Type 0
AfterToken p given tokens lexer new None =
    GivesOn p given tokens lexer new []
AfterToken p given tokens lexer new (Some i) =
    GivesOn p given tokens lexer new (given_as new i ∷ given_next new) × HoldsShown (given_of (read p tokens).progress) new

-- The last of the tokens is rejected, and nothing more is given before it. If it is rejected as a
-- move, the game is still in the position before it.
pub record Rejects (p : Profile) (given tokens : List Token) (new : Current) (f : Fault) : Type 0 where
  pub fault : (read p tokens).fault ≡ Some f
  pub gives : given_of (read p tokens).progress ≡ given_of (read p given).progress
  pub position : reported_position new.reading f.reason ≡ position_at_fault (read p tokens)

-- a marker that was read is the last of the tokens
abbrev pub EndsIfMarker : List Token → Standing → Current → Type 0
EndsIfMarker tokens lexer new = IsTrue (has_read_marker new) → EndsWithMarker tokens lexer.count

-- What reading a token of a piece results in. Numbers may be passed before it, which give nothing.
abbrev pub AfterTokenOf : Profile → List ℕ → List Token → List ℕ → Standing → Current → ℕ → Result (Option CodeItem) Fault → Type 0
AfterTokenOf p u given piece lexer new used (Ok item) =
    (tokens : List Token) × StandsAfter lexer (u ++ take used piece) (first (drop used piece)) tokens
    × IsDecided (u ++ take used piece) (drop used piece) tokens × AfterToken p given tokens lexer new item
    × EndsIfMarker tokens lexer new
AfterTokenOf p u given piece lexer new used (Err f) =
    (tokens : List Token) × Rejects p given tokens new f × AreNext (u ++ piece) tokens

-- What reading a token of a piece does.
pub record ReadsToken (old_lexer : Standing) (old : Current) (piece : List ℕ) (lexer : Standing) (new : Current) (used : ℕ) (result : Result (Option CodeItem) Fault) : Type 0 where
  pub after : (p : Profile) (u : List ℕ) (given : List Token) → StandsAfter old_lexer u (first piece) given
      → HasRead p (reads_as old_lexer old) given → AfterTokenOf p u given piece lexer new used result
  pub within : used ≤ length piece
  pub last : LastIs new result
  pub writing : new.reading.writing ≡ old.reading.writing
  pub count : lexer.count ≡ old_lexer.count + used
  pub sound : IfOk result (λ item. IsSound lexer new.reading new.games false false None)
  pub nearer : IfOk result (λ item. waiting lexer < 4 * used + waiting old_lexer)

-- What reading a token behind the last piece results in, where u is the whole text. At the end
-- (`true`) all tokens were read.
abbrev pub AfterLastToken : Profile → List ℕ → List Token → Standing → Current → Bool → Result (Option CodeItem) Fault → Type 0
AfterLastToken p u given lexer new is_end (Err f) =
    (token : Token) × (rest : List Token) × (tokens_of u ≡ given ++ token ∷ rest) × Rejects p given (given ++ token ∷ []) new f
AfterLastToken p u given lexer new false (Ok item) =
    (token : Token) × HasLeft lexer u (given ++ token ∷ []) × AfterToken p given (given ++ token ∷ []) lexer new item
    × IsMarkerIfRead token.kind new
AfterLastToken p u given lexer new true (Ok item) =
    (item ≡ None) × AfterToken p given (tokens_of u) lexer new None × (due p (tokens_of u) ≡ text_of p (read p (tokens_of u)).progress.games)

-- What reading a token behind the last piece does. The end is reached, or a token was waiting.
pub record ReadsLastToken (old_lexer : Standing) (old : Current) (lexer : Standing) (new : Current) (is_end : Bool) (result : Result (Option CodeItem) Fault) : Type 0 where
  pub after : (p : Profile) (u : List ℕ) (given : List Token) → HasLeft old_lexer u given
      → HasRead p (reads_as old_lexer old) given → AfterLastToken p u given lexer new is_end result
  pub count : lexer.count ≡ old_lexer.count
  pub last : LastIs new result
  pub sound : IfOk result (λ item. IsSound lexer new.reading new.games false is_end None)
  pub nearer : IfOk result (λ item. is_end ≡ false → waiting lexer < waiting old_lexer)

-- ---- the calls of `Items`

-- The source is read no more: it has ended, or there is a fault.
abbrev pub reads_no_more : ItemsState → Bool
reads_no_more Reading = false
reads_no_more _ = true

-- all items were given
abbrev pub is_at_end : ItemsState → Bool
is_at_end AtEnd = true
is_at_end _ = false

-- the fault, if there is one
abbrev pub fault_in : ItemsState → Option Fault
fault_in (Failed f) = Some f
fault_in _ = None

-- No fault was met, and the end was not reached. The call before this one has given all that was
-- read.
pub record AreGoing (i : Items) : Type 0 where
  pub no_fault : i.fault ≡ None
  pub not_finished : i.is_finished ≡ false
  pub last : i.current.last ≡ None
  pub pending : i.current.pending ≡ None

-- A token of the bytes that were read was taken. So far as it gives no item, the next one can be.
abbrev pub CanGoOn : Items → Result (Option CodeItem) Fault → Type 0
CanGoOn new (Ok None) = AreGoing new
CanGoOn new (Ok (Some i)) =
    (new.fault ≡ None) × (new.is_finished ≡ false) × (new.current.last ≡ Some i) × IsBehindTags new.current.pending new.current.last
CanGoOn new (Err f) = (new.fault ≡ Some f) × (new.current.last ≡ None) × (new.current.pending ≡ None)

-- How reading stops in the bytes that were read.
pub data StopsInBuffer (p : Profile) (u : List ℕ) (given : List Token) (new : Current) : Fault → Type 0 where
  at_token : (f : Fault) (tokens : List Token) → Rejects p given tokens new f → AreNext (within_limit u) tokens → StopsInBuffer p u given new f
  too_long : (front rest : List ℕ) → u ≡ front ++ rest → length front ≡ 2 ^ 62 → 0 < length rest → given ≡ decided front
      → StopsInBuffer p u given new (record { at = 2 ^ 62; reason = InputTooLong })

abbrev pub AfterBuffered : Profile → List ℕ → List Token → Items → Result (Option CodeItem) Fault → Type 0
AfterBuffered p u given new (Ok item) =
    (tokens : List Token) × HasReadWithin p u (games_of_items new) tokens × AfterToken p given tokens new.lexer new.current item
    × EndsIfMarker tokens new.lexer new.current
AfterBuffered p u given new (Err f) = StopsInBuffer p u given new.current f

-- What taking a token of the bytes that were read does.
pub record TakesBuffered (old new : Items) (result : Result (Option CodeItem) Fault) : Type 0 where
  pub after : (p : Profile) (u : List ℕ) (given : List Token) → HasReadWithin p u (games_of_items old) given
      → AfterBuffered p u given new result
  pub goes : CanGoOn new result
  pub read_all : IfOk result (λ item. new.has_read_all ≡ old.has_read_all)
  pub short : new.lexer.count ≤ 2 ^ 62
  pub nearer : IfOk result (λ item. waiting new.lexer + 4 * old.lexer.count < 4 * new.lexer.count + waiting old.lexer)

-- How bytes come to be there: some were left, or a read gave them.
pub record FillsItems (left_old left_new : Option (List ℕ)) (old new : Items) : Type 0 where
  pub more : List ℕ
  pub consumed : Consumes left_old left_new more
  pub new_is : new ≡ record old { unused = old.unused ++ more }
  pub some : 0 < length new.unused
  pub few : length more ≤ 4096
  pub empty : (more ≡ []) ⊎ (old.unused ≡ [])

-- What filling the buffer does to them: there are bytes, or the source has ended, or a read failed.
abbrev pub MoreItems : Option (List ℕ) → Option (List ℕ) → Items → Items → Result Bool Fault → Type 0
MoreItems left_old left_new old new (Ok true) = FillsItems left_old left_new old new
MoreItems left_old left_new old new (Ok false) =
    (old.unused ≡ []) × (new ≡ record old { has_read_all = true }) × Consumes left_old left_new [] × IsAtEnd left_new
MoreItems left_old left_new old new (Err f) =
    (old.unused ≡ []) × (f ≡ record { at = old.lexer.count; reason = ReadFault }) × (new.fault ≡ Some f)
    × Keeps left_old left_new × (new.current ≡ old.current)

-- What was read since a call began, if nothing more was given.
pub record ItemsSoFar (p : Profile) (u : List ℕ) (given : List Given) (left_old left_now : Option (List ℕ)) (now : Items) : Type 0 where
  pub more : List ℕ
  pub consumed : Consumes left_old left_now more
  pub tokens : List Token
  pub reads : HasReadWithin p (u ++ more) (games_of_items now) tokens
  pub whole : given_of (read p tokens).progress ≡ given
  pub no_sooner : ReadsNoSooner p u more given

abbrev pub HasReadSoFar : Items → Items → Option (List ℕ) → Option (List ℕ) → Type 0
HasReadSoFar old now left_old left_now =
    (p : Profile) (u : List ℕ) (given : List Given) → HaveGiven p left_old u old given → ItemsSoFar p u given left_old left_now now

-- What was read behind the last bytes of the source, if nothing more was given.
pub record RestSoFar (p : Profile) (u : List ℕ) (given : List Given) (left : Option (List ℕ)) (now : Items) : Type 0 where
  pub tokens : List Token
  pub rest : HasRest p left u now tokens
  pub whole : given_of (read p tokens).progress ≡ given

-- a source that is not read
abbrev pub still_at : Option (List ℕ) → ℕ → ℕ → Device
still_at left failures failures_after =
    record { before = left; after = left; failures = failures; failures_after = failures_after }

-- What taking a token behind the last bytes results in, and whether it was the end.
abbrev pub AfterRest : Profile → List ℕ → List Given → Option (List ℕ) → Items → Bool → Result (Option CodeItem) Fault → Type 0
AfterRest p u given left new is_end (Err f) = (failures failures_after : ℕ) → GivesFault p u given (still_at left failures failures_after) new f
AfterRest p u given left new is_end (Ok (Some i)) = GivesItem p u given left left new i
AfterRest p u given left new true (Ok None) = GivesNoItem p u given left left new
AfterRest p u given left new false (Ok None) = RestSoFar p u given left new

-- Where no item was given, the next token can be taken.
abbrev pub GoesOnAtEnd : Items → Items → Bool → Result (Option CodeItem) Fault → Type 0
GoesOnAtEnd old new false (Ok None) = AreGoing new × (waiting new.lexer < waiting old.lexer)
GoesOnAtEnd old new _ _ = Unit {0}

-- What taking a token behind the last bytes does.
pub record TakesAtEnd (old new : Items) (is_end : Bool) (result : Result (Option CodeItem) Fault) : Type 0 where
  pub after : (p : Profile) (u : List ℕ) (given : List Given) (left : Option (List ℕ)) → RestSoFar p u given left old
      → AfterRest p u given left new is_end result
  pub goes : GoesOnAtEnd old new is_end result
  pub read_all : IfOk result (λ item. new.has_read_all ≡ old.has_read_all)
  pub count : new.lexer.count ≡ old.lexer.count
  pub lowers : LowersAhead old new result

abbrev pub ReadRestSoFar : Items → Items → Type 0
ReadRestSoFar old now =
    (p : Profile) (u : List ℕ) (given : List Given) (left : Option (List ℕ)) → HaveGiven p left u old given → RestSoFar p u given left now

-- What is given behind the last bytes of the source.
abbrev pub GivesAtEnd : Items → Items → Result (Option CodeItem) Fault → Type 0
GivesAtEnd old new result =
    (left : Option (List ℕ)) (failures failures_after : ℕ) → ReadsItem old new result (still_at left failures failures_after)

-- The item that is given next was given.
abbrev pub giving_next : Current → Current
giving_next c = elim c.pending [ None ↦ c | Some i ↦ record c { last = Some i; pending = None } ]

-- the same game before its first token, and no game before it
abbrev pub restarted_game : Current → Current
restarted_game c = record c { reading = restarted c.reading; games = 0; last = None; pending = None }
