-- Runs of bytes of a set, at the front of a piece.
use Rattle.std.specs.Bool.{then_some}
use Rattle.std.specs.Prelude.{MatchOption, min}
use Rattle.pgn_lexer.proofs.Words.{◌≡◌, ℕ, ◌+◌, ◌<◌, ◌≤◌, Bool, true, false, nat_lt, ltb-true, ltb-false, List, length, get_or, get_or-take, length-take-le, take, ap, sym, ◌∙◌, arith, true≢false, Set, is_in, IsRunIn, rules, common_steps}

-- How far a run was followed in the first bytes of a piece: to the byte n.
pub record Followed (set : Set) (piece : List ℕ) (limit n : ℕ) : Type 0 where
  pub within : limit ≤ length piece
  pub from : 1 ≤ n
  pub short : n ≤ length (take limit piece)
  pub all : (i : ℕ) → 1 ≤ i → i < n → is_in set (get_or (take limit piece) i 0) ≡ true
  pub ends : n < length (take limit piece) → is_in set (get_or (take limit piece) n 0) ≡ false

module _ (set : Set) (longest : ℕ) (piece : List ℕ) (limit n : ℕ) (h : Followed set piece limit n) where
  long : length (take limit piece) ≡ limit
  long = length-take-le limit piece h.within

  here : (i : ℕ) → i < limit → get_or (take limit piece) i 0 ≡ get_or piece i 0
  here i less = get_or-take limit piece i 0 less

  goes : (i : ℕ) → 0 < i → i < n → is_in set (get_or piece i 0) ≡ true
  goes i some less =
      let short = h.short in
      ap (is_in set) (sym (here i (omega (arith, long, less)))) ∙ h.all i (omega arith) less

  pub run_ends : limit ≤ longest + 1 → n < limit → IsRunIn set longest piece n
  run_ends few less = grind (arith, common_steps, goes, long)

  -- it goes on behind the first bytes
  pub run_goes_on : ((m : ℕ) → m < length piece → m ≤ longest → m < limit) → limit ≤ n → (m : ℕ) → IsRunIn set longest piece m → ⊥
  run_goes_on whole all m is = search (rules, true≢false, goes)

  pub run_found : limit ≡ min (length piece) (longest + 1) → (b : Bool) → nat_lt n limit ≡ b
      → MatchOption (then_some b n) ((m : ℕ) → IsRunIn set longest piece m → ⊥) (λ m. IsRunIn set longest piece m)
  run_found same b e = search (rules, run_ends, ltb-true, run_goes_on, ltb-false)
