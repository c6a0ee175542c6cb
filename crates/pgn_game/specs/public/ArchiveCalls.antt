-- **Definition**: what a contract sees of `ArchiveItems`, and what `skip_bad_game` does to them.
-- Letters: a are the items, f is a fault, and `text` is the whole text of the source, if it reports
-- it. `old` and `new` are the items before a call and after it, and so is `source` the source,
-- which is seen as a device.
use Rattle.std.specs.Prelude.{◌≡◌, ℕ, ◌+◌, ◌-◌, ◌^◌, ◌<◌, ◌⊎◌, min, Bool, true, false, not, List, [], length, slice_index_or, Option, None, Some, IfSome, Result, Ok, Err, if◌then◌else◌}
use Rattle.pgn_layout.specs.Device.{Device, FailsOnce, IsStill}
use Rattle.pgn_lexer.specs.Bytes.{is_line_end}
use Rattle.pgn_lexer.specs.WhiteSpace.{white_space}
use Rattle.pgn_sections.specs.Lines.{next_place}
use Rattle.pgn_game.specs.declared.item.Item.{Item as CodeItem}
use Rattle.pgn_game.specs.declared.item.Item.TheVariants as items
use Rattle.pgn_game.specs.declared.reason.Fault.{Fault}
use Rattle.pgn_game.specs.declared.reason.Reason.TheVariants.{ReadFault, InputTooLong}
use Rattle.pgn_game.specs.public.ItemsCalls.{HaveGiven, Items, shown_games}
use Rattle.pgn_game.specs.public.SourceCalls.{IsSetTo}
use Rattle.pgn_game.specs.steps.GameState.{is_outside_the_table}

-- The items, where the current game begins, and how many games were given before the last bad one
-- that was skipped. A game begins where the one before it ends.
pub record ArchiveItems : Type 0 where
  pub items : Items
  pub begin : ℕ
  pub earlier_games : ℕ

-- the number of games whose marker was given; it stays at 2^64 - 1
abbrev pub given_games : ArchiveItems → ℕ
given_games a = min (a.earlier_games + shown_games a.items.current) (2 ^ 64 - 1)

-- a call of `next` gave a marker
abbrev pub gives_marker : Result (Option CodeItem) Fault → Bool
gives_marker (Ok (Some (items.Marker m))) = true
gives_marker _ = false

-- Where the current game begins after a call of `next`: behind a marker that it gave.
abbrev pub begin_after : Result (Option CodeItem) Fault → (begin place : ℕ) → ℕ
begin_after result begin place = if gives_marker result then place else begin

-- The fault is one of a game. A read that failed, and a text that is too long, are none.
abbrev pub is_of_game : Fault → Bool
is_of_game f = not (is_outside_the_table f.reason)

-- whether the byte before this place of the text is the end of a line
abbrev pub is_behind_line_end : List ℕ → ℕ → Bool
is_behind_line_end text place = is_line_end (slice_index_or text (place - 1) 0)

-- Reading goes on at this place. The bytes before it are taken for white space. The number of games
-- and what a missing Result counts as are kept.
pub record GoesOn (old new : ArchiveItems) (place : ℕ) (in_first_column : Bool) : Type 0 where
  pub above : old.begin < place
  pub begin : new.begin ≡ place
  pub count : new.items.lexer.count ≡ place
  pub no_fault : new.items.fault ≡ None
  pub not_finished : new.items.is_finished ≡ false
  pub games : given_games new ≡ given_games old
  pub gives : (left : Option (List ℕ))
      → HaveGiven old.items.current.reading.profile left (white_space place in_first_column) new.items []

-- No item is left. The number of games is kept.
pub record GoesNowhere (old new : ArchiveItems) : Type 0 where
  pub no_fault : new.items.fault ≡ None
  pub finished : new.items.is_finished ≡ true
  pub none_next : new.items.current.pending ≡ None
  pub games : given_games new ≡ given_games old

-- Why no place is found: the source cannot be set or read, or it has the byte at place 2^62.
abbrev pub CannotSkip : Option (List ℕ) → Device → Fault → Type 0
CannotSkip text source f =
    ((f.reason ≡ ReadFault) × FailsOnce source)
    ⊎ ((f ≡ record { at = 2 ^ 62; reason = InputTooLong }) × IsStill source × IfSome text (λ s. 2 ^ 62 < length s))

-- What `skip_bad_game` does behind a fault of a game. Where reading goes on is what `next_section`
-- of `pgn_sections` returns for the text, the place at which the game begins, and that of its
-- fault. The source is set there. The first column is that behind the end of a line.
abbrev pub Skips : Option (List ℕ) → ArchiveItems → ArchiveItems → Fault → Device → Result Bool Fault → Type 0
Skips text old new f source (Ok true) =
    (place : ℕ) × (in_first_column : Bool) × GoesOn old new place in_first_column
    × IsSetTo text place source.after × IsStill source
    × IfSome text (λ s. (next_place s old.begin f.at ≡ Some place) × (in_first_column ≡ is_behind_line_end s place))
Skips text old new f source (Ok false) =
    GoesNowhere old new × IsStill source × IfSome text (λ s. next_place s old.begin f.at ≡ None)
Skips text old new f source (Err e) = (new ≡ old) × CannotSkip text source e

abbrev pub SkipsBadGame : Option (List ℕ) → ArchiveItems → ArchiveItems → Device → Result Bool Fault → Type 0
SkipsBadGame text old new source result =
    (f : Fault) → old.items.fault ≡ Some f → is_of_game f ≡ true → Skips text old new f source result

-- Another fault is returned again. Items and source stay as they are.
abbrev pub SkipsNoGame : {R : Type 0} → ArchiveItems → ArchiveItems → R → R → Result Bool Fault → Type 0
SkipsNoGame old new source_old source_new result =
    (f : Fault) → old.items.fault ≡ Some f → is_of_game f ≡ false
    → (result ≡ Err f) × (new ≡ old) × (source_new ≡ source_old)

-- So they do without a fault.
abbrev pub SkipsNothing : {R : Type 0} → ArchiveItems → ArchiveItems → R → R → Result Bool Fault → Type 0
SkipsNothing old new source_old source_new result =
    old.items.fault ≡ None → (result ≡ Ok false) × (new ≡ old) × (source_new ≡ source_old)
