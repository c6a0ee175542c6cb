use Rattle.chess_text.proofs.Words.{◌^◌, ◌≡◌, ℕ, ◌<◌, ◌≤◌, ◌+◌, ◌*◌, ◌==◌, false, ◌&&◌, ◌++◌, length, take, refl, subst, sym, ◌∙◌, ap, arith, Board, List, is_space, position_or_len_is, nat_tests, nat_lt, Some, None, Option, if◌then◌else◌, item, get_or, ◌⊎◌, ◌%◌, common_steps}
use Rattle.chess_text.specs.declared.item.Item.{Item}
use Rattle.chess_text.proofs.positions.TextToBoard.{ReadSoFar, nothing_read, item_fits, item_read, slash_read, space_read, other_read, end_read}
use Rattle.chess_text.proofs.placement.read_placement.Goals as goal
use Rattle.chess_text.proofs.placement.read_placement.Goals.{then-file-item-le8, else-file-item-le8+then-byte-eq47+then-file-eq8+then-below-gt0}

-- the same state in other words
restated : {text : List ℕ} {i : ℕ} {b d : Board} {below k file f lanes n : ℕ} → b ≡ d → below ≡ k → file ≡ f → lanes ≡ n
    → ReadSoFar text i d k f n → ReadSoFar text i b below file lanes
restated {text} {i} {b} {d} {below} {k} {file} {f} {lanes} {n} e g h j s = grind (arith, common_steps)

fits : {text : List ℕ} {i : ℕ} {b : Board} {below file lanes : ℕ} (x : Item) → x ≡ item (get_or text i 0) → ReadSoFar text i b below file lanes → i < length text
    → file + x.width ≤ 8 → lanes + (x.lanes * 2 ^ file) % 2 ^ 32 < 2 ^ 32
fits {file = file} {lanes = lanes} x e s low narrow =
    subst (λ y. lanes + (y.lanes * 2 ^ file) % 2 ^ 32 < 2 ^ 32) (sym e)
    (item_fits s low (omega (arith, narrow, ap (λ y. y.width) e)))

put : {text : List ℕ} {i : ℕ} {b : Board} {below file lanes : ℕ} (x : Item) → x ≡ item (get_or text i 0) → ReadSoFar text i b below file lanes → i < length text
    → file + x.width ≤ 8 → ReadSoFar text (i + 1) b below (file + x.width) (lanes + (x.lanes * 2 ^ file) % 2 ^ 32)
put {text} {i} {b} {below} {file} {lanes} x e s low narrow = grind (arith, common_steps, item_read)

whole : (o : Option Board) (b : Board) (below file : ℕ) → o ≡ (if (file == 8) && (below == 0) then Some b else None) → file ≡ 8 → below ≡ 0 → o ≡ Some b
whole o b below file h e f = grind (arith, nat_tests)

part : (o : Option Board) (b : Board) (below file : ℕ) → o ≡ (if (file == 8) && (below == 0) then Some b else None)
    → ((file ≡ 8) × (below ≡ 0 → ⊥)) ⊎ (file ≡ 8 → ⊥) → o ≡ None
part o b below file h e = grind (arith, nat_tests)

no_slash : (byte file below : ℕ) → ((byte ≡ 47) × (file ≡ 8) × (below ≤ 0)) ⊎ (((byte ≡ 47) × (file ≡ 8 → ⊥)) ⊎ (byte ≡ 47 → ⊥))
    → ((byte == 47) && ((file == 8) && nat_lt 0 below)) ≡ false
no_slash byte file below h = grind (arith, nat_tests)

no_space : (byte file below : ℕ) → ((byte ≡ 32) × (file ≡ 8) × (below ≡ 0 → ⊥)) ⊎ (((byte ≡ 32) × (file ≡ 8 → ⊥)) ⊎ (byte ≡ 32 → ⊥))
    → ((byte == 32) && ((file == 8) && (below == 0))) ≡ false
no_space byte file below h = grind (arith, nat_tests)

pub loop-i-init : goal.loop-i-init
loop-i-init c = nothing_read c.args.text.now c.args.board.now c.requires.empty

pub overflow_add-lanes : goal.overflow_add-lanes
overflow_add-lanes c = omega (arith, fits c.item_of-item.result c.item_of-item.ensures c.loop-i.invariant c.loop-i-test.true c.if-file-item-le8.true)

pub returns-then-below-eq0-clause-board : goal.returns-then-below-eq0-clause-board
returns-then-below-eq0-clause-board c =
    let so_far = c.loop-i in
    whole _ c.push_rank-then-below-eq0.new.self so_far.below so_far.file
    (space_read so_far.invariant c.loop-i-test.true
    c.push_rank-then-below-eq0.new.self c.if-byte-eq32.true
    (λ full. c.push_rank-then-below-eq0.ensures so_far.invariant.row (so_far.invariant.long ∙ full) so_far.invariant.value))
    c.if-file-eq8-2.true c.if-below-eq0.true

pub returns-then-below-eq0-clause-end : goal.returns-then-below-eq0-clause-end
returns-then-below-eq0-clause-end c = grind (arith, common_steps, position_or_len_is, no_space)

pub returns-else-byte-eq32-clause-board : goal.returns-else-byte-eq32-clause-board
returns-else-byte-eq32-clause-board c =
    let so_far = c.loop-i in
    other_read so_far.invariant c.loop-i-test.true
    (omega (arith, c.if-file-item-le8.false, ap (λ x. x.width) c.item_of-item.ensures))
    (no_slash _ _ _ c.else-byte-eq47.either) (no_space _ _ _ c.else-byte-eq32.either)

pub loop-i-preserved : goal.loop-i-preserved
loop-i-preserved c =
    let so_far = c.loop-i in
    elim c.if-file-item-le8.branch [
      | then-file-item-le8 w ↦ restated w.board-is w.below-is w.file-is w.lanes-is
          (put c.item_of-item.result c.item_of-item.ensures so_far.invariant c.loop-i-test.true w.if-file-item-le8.true)
      | else-file-item-le8+then-byte-eq47+then-file-eq8+then-below-gt0 w ↦ restated w.board-is w.below-is w.file-is w.lanes-is
          (slash_read so_far.invariant c.loop-i-test.true
          w.push_rank.new.self w.if-byte-eq47.true w.if-file-eq8.true w.if-below-gt0.true
          (w.push_rank.ensures so_far.invariant.row (so_far.invariant.long ∙ w.if-file-eq8.true) so_far.invariant.value))
    ]

pub returns-then-below-eq0-2-clause-board : goal.returns-then-below-eq0-2-clause-board
returns-then-below-eq0-2-clause-board c =
    let so_far = c.loop-i in
    whole _ c.push_rank-then-below-eq0-2.new.self so_far.below so_far.file
    (end_read so_far.invariant c.push_rank-then-below-eq0-2.new.self (omega arith)
    (λ full. c.push_rank-then-below-eq0-2.ensures so_far.invariant.row (so_far.invariant.long ∙ full) so_far.invariant.value))
    c.if-file-eq8-3.true c.if-below-eq0-2.true

pub returns-then-below-eq0-2-clause-end : goal.returns-then-below-eq0-2-clause-end
returns-then-below-eq0-2-clause-end c =
    sym (position_or_len_is is_space c.args.text.now (length c.args.text.now) 0 (omega arith)
    (λ k h. c.loop-i.invariant.no_space k (omega arith)) (λ h. absurd (omega arith)))

pub returns-else-file-eq8-3-clause-board : goal.returns-else-file-eq8-3-clause-board
returns-else-file-eq8-3-clause-board c =
    let so_far = c.loop-i in
    part _ _ so_far.below so_far.file
    (end_read so_far.invariant (so_far.invariant.row ++ take 56 so_far.board) (omega arith) (λ _. refl))
    c.else-file-eq8-3.either
