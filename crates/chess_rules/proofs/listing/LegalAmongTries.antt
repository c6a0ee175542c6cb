-- The legal moves that are still to come, while moves are tried one by one.
use Rattle.chess_rules.proofs.Words.{Move, Parts, Played, legal_among, played, ◌≡◌, ℕ, ◌+◌, ◌≤◌, List, [], ◌∷◌, length, None, Some, refl, sym, ◌∙◌, ap, arith, filter_map, cons_option, common_steps}

-- The legal ones among the moves that are left are those still to come. Each move so far was
-- counted.
pub record AreLeft (p : Parts) (whole : List Played) (old now : ℕ) (left : List Move) : Type 0 where
  pub same : legal_among p left ≡ whole
  pub few : length left ≤ 4096
  pub counted : now + length left ≤ old + 4096
  pub rises : old ≤ now

pub none_among : (p : Parts) → legal_among p [] ≡ []
unfolding legal_among
none_among p = refl

module _ {p : Parts} {whole : List Played} {old now : ℕ} {left : List Move} (w : AreLeft p whole old now left) where
  module _ (m : Move) (rest : List Move) (next : left ≡ m ∷ rest) where
    -- the next move is legal
    pub legal_next : (x : Played) → Some x ≡ played p m → whole ≡ x ∷ legal_among p rest
    unfolding legal_among
    legal_next x is = sym w.same ∙ (ap (filter_map (played p)) next ∙ ap (λ o. cons_option o (filter_map (played p) rest)) (sym is))

    -- the next move is not legal
    pub passed : (later : ℕ) → None ≡ played p m → later ≡ now + 1 → AreLeft p whole old later rest
    unfolding legal_among
    passed later is one = grind (arith, common_steps, length)

  -- no move is left
  pub all_passed : left ≡ [] → whole ≡ []
  unfolding legal_among
  all_passed none = sym w.same ∙ ap (filter_map (played p)) none
