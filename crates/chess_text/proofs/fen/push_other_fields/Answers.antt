use Rattle.chess_text.proofs.Words.{◌≡◌, ◌≤◌, List, ℕ, ◌∷◌, length, ◌∙◌, ap, arith, length-append, decimal}
use Rattle.chess_text.proofs.positions.FieldsOfText.{length-number}
use Rattle.chess_text.proofs.fen.push_other_fields.Goals as goal

-- the last field has five bytes at most
short_number : (field : List ℕ) (n : ℕ) → field ≡ decimal n → n ≤ 99999 → length field ≤ 5
short_number field n e h = omega (arith, ap length e, length-number n h)

pub push_field-requires : goal.push_field-requires
push_field-requires c =
    omega (
      arith,
      short_number c.as_bytes.result.now c.full.result (c.as_bytes.ensures.value ∙ c.format.ensures.text) c.full.ensures.limit,
    )

pub returns-clause-short : goal.returns-clause-short
returns-clause-short c =
    omega (
      arith,
      ap length c.push_field.ensures,
      length-append c.push_all_but_full.new.text.items (32 ∷ c.as_bytes.result.now),
      short_number c.as_bytes.result.now c.full.result (c.as_bytes.ensures.value ∙ c.format.ensures.text) c.full.ensures.limit,
    )
