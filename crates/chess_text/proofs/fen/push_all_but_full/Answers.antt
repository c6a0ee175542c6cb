use Rattle.chess_text.proofs.Words.{◌≡◌, List, ℕ, [], ◌∷◌, ◌++◌, append_assoc, sym, ◌∙◌, ap, arith, decimal, side_text, ◌+◌, ◌≤◌, length, length-append, rights_text, target_text, Board, placement_text, rules}
use Rattle.chess_text.proofs.positions.FieldsOfText.{five_written, six_written, length-five, length-number, length-target_text}
use Rattle.chess_text.proofs.positions.BoardToText.{length-placement_text}
use Rattle.chess_text.proofs.fen.push_all_but_full.Goals as goal

-- a field behind a space
behind_space : (before space after field : List ℕ) → space ≡ before ++ 32 ∷ [] → after ≡ space ++ field
    → after ≡ before ++ 32 ∷ field
behind_space before space after field e f = f ∙ ap (λ t. t ++ field) e ∙ append_assoc before (32 ∷ []) field

pub returns : goal.returns
returns c =
    let p = c.args.position.now in
    let behind = λ (t u : List ℕ). t ++ 32 ∷ u in
    let five =
    five_written p c.args.text.now.items c.push-2.new.self.items c.push_field.new.text.items c.push_target.new.text.items _
    c.requires
    (behind_space _ _ _ _ c.push.ensures.items
    (c.push-2.ensures.items ∙ ap (λ t. c.push.new.self.items ++ t) (sym c.side_letter.ensures ∙ ap side_text c.side.ensures)))
    (c.push_field.ensures ∙ ap (behind _) (c.as_slice.ensures.value ∙ c.rights_text.ensures ∙ ap rights_text c.rights.ensures))
    (behind_space _ _ _ _ c.push-3.ensures.items (c.push_target.ensures ∙ ap (λ t. c.push-3.new.self.items ++ target_text t) c.target.ensures))
    (c.push_field-2.ensures ∙ ap (behind _) (c.as_bytes.ensures.value ∙ c.format.ensures.text ∙ ap decimal c.half.ensures.value)) in
    record { text = six_written p _ five; short = length-five p _ five (omega arith) }

-- with a space and at most four bytes more
with_four : (before after field : List ℕ) → length field ≤ 4 → after ≡ before ++ 32 ∷ field → length after ≤ length before + 5
with_four before after field few e = omega (arith, ap length e, length-append before (32 ∷ field))

short_board : (text : List ℕ) (b : Board) → text ≡ placement_text b → length text ≤ 71
short_board text b e = omega (arith, ap length e, length-placement_text b)

pub push-requires : goal.push-requires
push-requires c = (omega arith, omega (arith, short_board _ c.args.position.now.board c.requires))

pub push-requires-2 : goal.push-requires-2
push-requires-2 c = (omega arith, omega (arith, short_board _ c.args.position.now.board c.requires))

pub push_field-requires : goal.push_field-requires
push_field-requires c = omega (arith, short_board _ c.args.position.now.board c.requires)

pub push-requires-3 : goal.push-requires-3
push-requires-3 c = search (rules, with_four, short_board)

pub push_target-requires : goal.push_target-requires
push_target-requires c =
    omega (arith, with_four _ _ _ c.as_slice.ensures.fits c.push_field.ensures, short_board _ c.args.position.now.board c.requires)

pub push_field-requires-2 : goal.push_field-requires-2
push_field-requires-2 c = search (rules, short_board, with_four, length-append, length-target_text, length-number)
