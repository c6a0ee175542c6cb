-- What putting a token of movetext adds to what stands written of its game, and to the reader.
use Rattle.pgn_game.proofs.Words.{◌≡◌, ℕ, ◌+◌, ◌<◌, ◌≤◌, true, false, List, [], ◌∷◌, ◌++◌, length, drop, Option, None, Result, refl, sym, ap, subst, ◌∙◌, append-nil, length-append, arith, IsTrue, Ok, Err, list_any-append, drop-append-add, drop-length, Appends-trans, Appends, AppendsFront, Device, one_more, Parts, Mode, Stage, Between, AfterTags, InMovetext, Pair, Item, Part, More, is_at, start_of, tag_section, is_move, full_text, torn_at, has_move, Next, going, HoldsItems, GameState, Agrees, bytes_seen, mode_unless, mode_written, item_text, Bool, Some, as_written, known_of, plies_of_finished_games, IsOpen, may_have_movetext, with_items, Adds, BeginsText, Goes, Keeps, PutResult, gain_to, section_due, section_due_of, rules, common_steps}
use Rattle.pgn_layout.specs.declared.sink.WriteFault.{WriteFault}
use Rattle.pgn_game.specs.declared.reason.Reason.TheVariants as reasons
use Rattle.pgn_layout.proofs.OneWriteMore.{front_after}
use Rattle.pgn_game.proofs.putting.ItemToMovetext.{from_to}

-- what is written of the lines, besides what was
abbrev pub lines_gain : Mode → List Pair → List Item → List Item → List ℕ
lines_gain mode ps items more = drop (length (full_text mode (start_of ps) items)) (full_text mode (start_of ps) (items ++ more))

no_text : (mode : Mode) (start : Parts) → full_text mode start [] ≡ []
no_text mode start = search rules

-- What the section and these lines add to what is written: the section, where it is due, and the
-- lines without those of the items so far.
pub gain_at : (mode : Mode) (result : List ℕ) (stage : Stage) (ps : List Pair) (name : List ℕ) (items : List Item) (lines : List ℕ)
    → IsTrue (may_have_movetext stage) → (stage ≡ AfterTags → items ≡ [])
    → drop (length (torn_at stage mode result (record { stage = stage; pairs = ps; name = name; items = items })))
    (tag_section mode result ps ++ lines) ≡ section_due stage mode result ps ++ drop (length (full_text mode (start_of ps) items)) lines
gain_at mode result stage ps name items lines at fresh = grind (arith, length-append, drop-append-add, no_text)

-- the stage of a part is the reader's
module _ (old : GameState) (part : Part) where
  pub open_stage : IsOpen old part → IsTrue (may_have_movetext old.stage) → IsTrue (may_have_movetext part.stage)
  open_stage is at = rw is.stage at at

  -- what is due of the section is the part's
  pub section_is : IsOpen old part → section_due_of old ≡ section_due part.stage old.profile.mode (known_of old) part.pairs
  section_is is = grind (arith, common_steps)

  -- What items add: the tag section, where movetext begins, and what they add to the full lines.
  pub gain_is : (more : List Item) → IsTrue (may_have_movetext old.stage) → IsOpen old part
      → section_due_of old ++ lines_gain old.profile.mode part.pairs part.items more ≡ gain_to (as_written old) part (going (with_items part more))
  gain_is more at is =
      let p = old.profile in
      cc (
        section_is is,
        gain_at p.mode (known_of old) part.stage part.pairs part.name part.items
            (full_text p.mode (start_of part.pairs) (part.items ++ more)) (open_stage is at) (λ e. is.fresh (is.stage ∙ e)),
      )

-- no move was played outside the games before
pub plies_before : (old : GameState) → IsTrue (may_have_movetext old.stage) → plies_of_finished_games old ≡ old.earlier_plies
plies_before old at = grind arith

-- writing the section leaves what each call leaves
pub keeps_begun : {A E : Type 0} {old new : GameState} {r : Result A E} {d : Device} → BeginsText old new r d → Keeps old new
keeps_begun begins = grind (arith, common_steps)

-- a put that failed, and one after which the game goes on
module _ (old new : GameState) (IsOf : Part → Type 0) (to : Part → Next) (d : Device) (keeps : Keeps old new) where
  pub unwritten : d.failures_after ≡ one_more d.failures
      → ((part : Part) → IsOf part → AppendsFront d.before d.after (gain_to (as_written old) part (to part)))
      → PutResult old IsOf to new (Err reasons.WriteFault) d
  unwritten counted front = search rules

  pub more_comes : (new.stage ≡ Between → new ≡ old) → (old.stage ≡ InMovetext → new.stage ≡ InMovetext) → d.failures_after ≡ d.failures
      → ((part : Part) → IsOf part → Goes old part (to part) new More d) → PutResult old IsOf to new (Ok More) d
  more_comes closed inside counted on = record { goes = on; keeps = keeps; stays = (closed, inside); counted = counted }

-- a reader in movetext agrees with the part that it holds
agrees_in_text : (r : GameState) (part : Part) → r.stage ≡ InMovetext
    → part.stage ≡ InMovetext → r.tags ≡ record { held = part.pairs; pending_name = None }
    → HoldsItems (mode_written r) (start_of part.pairs) part.items r.text r.line
    → (IsTrue (has_move part.items) → 0 < r.most_probes) → Agrees r part
agrees_in_text r part stage same tags held probed = search rules

not_between : (stage : Stage) {P : Type 0} → stage ≡ InMovetext → stage ≡ Between → P
not_between stage at e = let h = sym at ∙ e in absurd (cc)

-- The reader after the section and an item: its movetext and its line have changed, and nothing
-- else but the count of probes.
pub record IsAfterItem (begun new : GameState) : Type 0 where
  pub profile : new.profile ≡ begun.profile
  pub writing : new.writing ≡ begun.writing
  pub stage : new.stage ≡ begun.stage
  pub tags : new.tags ≡ begun.tags
  pub earlier : new.earlier_plies ≡ begun.earlier_plies
  pub probes : begun.most_probes ≤ new.most_probes

-- the section was written, and then items or none
goes_with : (old begun new : GameState) (part : Part) (more : List Item) (d : Device) → IsTrue (may_have_movetext old.stage) → IsOpen old part
    → begun ≡ record old { stage = InMovetext } → IsAfterItem begun new
    → HoldsItems (mode_written old) (start_of part.pairs) (part.items ++ more) new.text new.line
    → (IsTrue (has_move (part.items ++ more)) → 0 < new.most_probes)
    → Appends d.before d.after (gain_to (as_written old) part (going (with_items part more)))
    → Goes old part (going (with_items part more)) new More d
goes_with old begun new part more d at is begins next held probed appended = search (rules, plies_before, agrees_in_text)

-- what items lead to
abbrev pub to_items : List Item → Part → Next
to_items items part = going (with_items part items)

-- A number was put, or a period: the section alone was written.
pub puts_number : (old new : GameState) (d : Device) → IsTrue (may_have_movetext old.stage)
    → BeginsText {A = Unit} {E = WriteFault} old new (Ok tt) d → PutResult old (IsOpen old) (to_items []) new (Ok More) d
puts_number old new d at begins = search (rules, append-nil, drop-length, gain_is, more_comes, not_between, goes_with)

-- In movetext nothing is due of the section.
pub begun_before : (old : GameState) (d : Device) → old.stage ≡ InMovetext
    → Appends d.before d.after [] → d.failures_after ≡ d.failures → BeginsText {A = Unit {0}} {E = WriteFault} old old (Ok tt) d
begun_before old d at nothing counted = search rules

-- where a move was played, some pair was tried
probed_with : (old : GameState) (part : Part) (i : Item) (most : ℕ) → (is_move i ≡ true → 0 < old.most_probes) → old.most_probes ≤ most
    → (IsTrue (has_move part.items) → 0 < old.most_probes) → IsTrue (has_move (part.items ++ i ∷ [])) → 0 < most
probed_with old part i most put rises before has = grind (arith, list_any-append)

-- the movetext that was held is held where its section is written
begun_held : (old begun : GameState) (part : Part) → IsOpen old part → begun ≡ record old { stage = InMovetext }
    → HoldsItems (mode_written begun) (start_of part.pairs) part.items begun.text begun.line
begun_held old begun part is begins = rw begins is.held

-- What a reader writes in two steps, where `item` is what a mode writes in the second. Of a silent
-- one nothing is seen.
appends_both : (silent : Bool) (mode : Mode) (x y z : Option (List ℕ)) (section gained : List ℕ) (item : Option Mode → List ℕ)
    → Appends (bytes_seen silent x) (bytes_seen silent y) section
    → Appends (bytes_seen silent y) (bytes_seen silent z) (item (mode_unless silent mode))
    → section ++ item (Some mode) ≡ gained → Appends (bytes_seen silent x) (bytes_seen silent z) gained
appends_both silent mode x y z section gained item first second is = search (rules, Appends-trans)

front_of_both : (silent : Bool) (mode : Mode) (x y z : Option (List ℕ)) (section gained : List ℕ) (item : Option Mode → List ℕ) → item None ≡ []
    → Appends (bytes_seen silent x) (bytes_seen silent y) section
    → AppendsFront (bytes_seen silent y) (bytes_seen silent z) (item (mode_unless silent mode))
    → section ++ item (Some mode) ≡ gained → AppendsFront (bytes_seen silent x) (bytes_seen silent z) gained
front_of_both true mode x y z section gained item none first (n, few, rest) is = absurd (omega (arith, few, ap (λ (l : List ℕ). length l) none))
front_of_both false mode x y z section gained item none first second is = subst (AppendsFront x z) is (front_after x y z _ _ first second)

-- The section was written, and then an item put.
module _ (old begun new : GameState) (i : Item) (x y z : Option (List ℕ)) (n m k : ℕ) (at : IsTrue (may_have_movetext old.stage))
    (begins : BeginsText {A = Unit} {E = WriteFault} old begun (Ok tt) (from_to (bytes_seen old.writing.is_silent x) (bytes_seen old.writing.is_silent y) n m))
    (next : IsAfterItem begun new) where
  abbrev a : Option (List ℕ)
  a = bytes_seen old.writing.is_silent x

  abbrev b : Option (List ℕ)
  b = bytes_seen old.writing.is_silent y

  abbrev c : Option (List ℕ)
  c = bytes_seen old.writing.is_silent z

  kept : new.text.plies ≤ begun.text.plies + 1 → Keeps old new
  kept plies = grind (arith, common_steps)

  same_mode : mode_written begun ≡ mode_written old
  same_mode = ap mode_written begins.begun

  pub puts_item : (is_move i ≡ true → 0 < old.most_probes)
      → Adds {A = Unit} {E = WriteFault} (mode_written begun) i begun.text begun.line new.text new.line (Ok tt) (from_to b c m k)
      → PutResult old (IsOpen old) (to_items (i ∷ [])) new (Ok More) (from_to a c n k)
  puts_item put adds =
      let most : old.most_probes ≤ new.most_probes = omega (arith, next.probes, begins.probes) in
      more_comes old new (IsOpen old) (to_items _) (from_to a c n k) (kept adds.plies)
      (not_between new.stage (next.stage ∙ ap (λ r. r.stage) begins.begun)) (λ before. next.stage ∙ ap (λ r. r.stage) begins.begun)
      (adds.counted ∙ begins.counted)
      (λ part is.
      let added = adds.adds (start_of part.pairs) part.items (begun_held old begun part is begins.begun) in
      goes_with old begun new part (i ∷ []) (from_to a c n k) at is begins.begun next
      (rw same_mode at added.0)
      (probed_with old part i new.most_probes put most is.probed)
      (appends_both old.writing.is_silent old.profile.mode x y z _ _ (λ by. item_text by (start_of part.pairs) part.items i)
      begins.text (rw same_mode at added.1) (gain_is old part _ at is)))

  pub fails_item : (f : WriteFault) → Adds {A = Unit} (mode_written begun) i begun.text begun.line new.text new.line (Err f) (from_to b c m k)
      → PutResult old (IsOpen old) (to_items (i ∷ [])) new (Err reasons.WriteFault) (from_to a c n k)
  fails_item f adds =
      unwritten old new (IsOpen old) (to_items _) (from_to a c n k) (kept adds.plies)
      (adds.counted ∙ ap one_more begins.counted) (λ part is.
      front_of_both old.writing.is_silent old.profile.mode x y z _ _ (λ by. item_text by (start_of part.pairs) part.items i) refl
      begins.text (rw same_mode at (adds.adds (start_of part.pairs) part.items (begun_held old begun part is begins.begun)))
      (gain_is old part _ at is))

-- where the section could not be written, movetext had not begun
pub unbegun_part : {A : Type 0} (old new : GameState) (f : WriteFault) (d : Device) (part : Part)
    → IsTrue (may_have_movetext old.stage) → BeginsText {A = A} old new (Err f) d → old.stage ≡ part.stage → is_at InMovetext part ≡ false
unbegun_part old new f d part at begins same = grind arith
