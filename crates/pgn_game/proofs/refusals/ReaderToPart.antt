-- What a reader holds of a part that it agrees with, and where a token of movetext meets its table.
use Rattle.pgn_game.proofs.Words.{AreSound, ◌≡◌, ℕ, List, [], Bool, false, Option, None, Some, Bor, refl, sym, ◌∙◌, IsTrue, option_copied, All-nil, kind_of, TokenKind, Parts, Mode, Stage, AfterTags, InMovetext, Pair, value_of, has_pair, Item, Part, TagPairs, start_of, is_outside_tag_pairs, lacks_fen, position_in, at_stage, Movetext, HoldsItems, movetext_from, GameState, Agrees, HoldsPairs, HoldsText, IsEntry, IsOpen, has_whole_pairs, may_have_movetext, arith, rules, is_some}
use Rattle.pgn_game.proofs.refusals.RefusalsByStage.{is_textual, row_in_movetext, next_in_movetext, row_after_tags, next_after_tags}

-- The part is at the reader's stage, and what the reader holds of it there.
module _ (old : GameState) (part : Part) (stage : Stage) where
  pub part_stage : Agrees old part → old.stage ≡ stage → part.stage ≡ stage
  part_stage agrees at = sym agrees.stage ∙ at

  pub held_at : Agrees old part → old.stage ≡ stage → HoldsPairs stage old.tags part
  held_at agrees at = rw at at agrees.pairs

-- where movetext can begin or goes on, no name waits for its value
pub no_name : (most : ℕ) (old held : GameState) → held ≡ old → IsTrue (may_have_movetext old.stage)
    → AreSound most held.stage held.tags → held.tags.pending_name ≡ None
no_name most old held is may = search rules

-- so at each stage but the one after a name
pub no_name_held : (most : ℕ) (old held : GameState) → held ≡ old → IsTrue (has_whole_pairs old.stage)
    → AreSound most held.stage held.tags → held.tags.pending_name ≡ None
no_name_held most old held is whole = search rules

pub may_have_whole : (stage : Stage) → IsTrue (may_have_movetext stage) → IsTrue (has_whole_pairs stage)
may_have_whole stage may = grind arith

pub text_at : (old : GameState) (part : Part) (stage : Stage) → Agrees old part → old.stage ≡ stage → HoldsText stage old part
text_at old part stage agrees at = rw (← at) agrees.text

-- a call that found a value found it in the list, and one that found none did not
pub has_pair_found : (ps qs : List Pair) (name : List ℕ) (found : Option (Bor (List ℕ))) (b : Bool)
    → ps ≡ qs → option_copied found ≡ value_of ps name → b ≡ is_some found → has_pair qs name ≡ b
has_pair_found ps qs name found b same copied is = search rules

-- the pairs held are those of the part, so SetUp asks for the same
pub lacks_of : (old : GameState) (part : Part) (lacks : Bool) → Agrees old part
    → old.stage ≡ AfterTags → lacks_fen old.tags.held ≡ lacks → lacks_fen part.pairs ≡ lacks
lacks_of old part lacks agrees at is = cc (held_at old part AfterTags agrees at)

pub begun_name : (tags : TagPairs) (part : Part) (name : List ℕ)
    → tags ≡ record { held = part.pairs; pending_name = Some part.name } → tags.pending_name ≡ Some name → name ≡ part.name
begun_name tags part name is begun = let e : Some name ≡ Some part.name = cc in cc

nothing_held : {mode : Option Mode} {start : Parts} → HoldsItems mode start [] (movetext_from start) []
nothing_held = search (rules, All-nil)

held_none : {mode : Option Mode} {start : Parts} {items : List Item} {text : Movetext} (line : List ℕ)
    → items ≡ [] → text ≡ movetext_from start → line ≡ [] → HoldsItems mode start items text line
held_none line none begins_game empty = rw (none, begins_game, empty) (nothing_held)

open_at : {old : GameState} {part : Part} {stage : Stage} → Agrees old part
    → old.stage ≡ stage → IsTrue (may_have_movetext stage) → IsOpen old part
open_at agrees at is = search (rules, held_at, text_at, held_none)

pub open_agrees : {old : GameState} {part : Part} → Agrees old part → IsTrue (may_have_movetext old.stage) → IsOpen old part
open_agrees agrees is = open_at agrees refl is

first_held : (old : GameState) (part : Part) → part.items ≡ []
    → old.text ≡ movetext_from (start_of part.pairs) → old.text.levels.current.position ≡ position_in part
first_held old part none begins_game = grind arith

pub position_in_pair : {old : GameState} {part : Part} {stage : Stage} → Agrees old part
    → old.stage ≡ stage → is_outside_tag_pairs (at_stage stage part) ≡ false → old.text.levels.current.position ≡ position_in part
position_in_pair agrees at is = grind (arith, text_at, first_held)

-- The table and the step of movetext are those of a token in it, and of the first one.
module _ (old : GameState) (k : TokenKind) (part : Part) where
  pub entry_in_movetext : old.stage ≡ InMovetext → Agrees old part → IsEntry old (kind_of k) part
  entry_in_movetext at agrees = search (rules, row_in_movetext, next_in_movetext, part_stage, open_agrees)

  pub entry_after_tags : old.stage ≡ AfterTags → IsTrue (is_textual (kind_of k)) → lacks_fen part.pairs ≡ false → Agrees old part
      → IsEntry old (kind_of k) part
  entry_after_tags at is free agrees = search (rules, row_after_tags, next_after_tags, part_stage, open_agrees)
