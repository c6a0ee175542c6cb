-- What two lists of tokens both begin with.
use Rattle.pgn_lexer.proofs.Words.{◌≡◌, ℕ, Bool, true, false, List, [], ◌∷◌, ◌++◌, refl, ap, bytes_eq, Kind, Token, same_kind, same_token, common, IsPrefix, arith}
use Rattle.std.proofs.lemmas.Slice.Eq.{bytes_eq-Decides}

bytes_eq-refl : (xs : List ℕ) → bytes_eq xs xs ≡ true
bytes_eq-refl xs = (bytes_eq-Decides xs xs).1 refl

same_kind-refl : (k : Kind) → same_kind k k ≡ true
same_kind-refl k = grind (arith, bytes_eq-refl)

same_token-refl : (t : Token) → same_token t t ≡ true
same_token-refl t = grind (arith, same_kind-refl)

pub common-append : (ts xs ys : List Token) → common (ts ++ xs) (ts ++ ys) ≡ ts ++ common xs ys
common-append [] xs ys = refl
common-append (t ∷ ts) xs ys = grind (arith, same_token-refl, common-append ts)

pub common-refl : (ts : List Token) → common ts ts ≡ ts
common-refl [] = refl
common-refl (t ∷ ts) = grind (arith, same_token-refl, common-refl ts)

pub common_front : (xs ys : List Token) → IsPrefix (common xs ys) xs
common_front [] ys = ([], refl)
common_front (x ∷ xs) [] = (x ∷ xs, refl)
common_front (x ∷ xs) (y ∷ ys) = cases (common_front xs ys) _
  where
    cases : IsPrefix (common xs ys) xs → (c : Bool) → IsPrefix (elim c [ true ↦ x ∷ common xs ys | false ↦ [] ]) (x ∷ xs)
    cases front true = (front.0, ap (λ l. x ∷ l) front.1)
    cases front false = (x ∷ xs, refl)
