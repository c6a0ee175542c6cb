-- A front of a piece, which ends before place 2^62.
use Rattle.pgn_game.proofs.Words.{Profile, take-append-drop, take_all, Token, decided, Follows, IsDecided, first, Standing, StandsAfter, Converter, Stands, ◌≡◌, ℕ, ◌+◌, ◌<◌, ◌≤◌, zero, suc, List, [], ◌∷◌, ◌++◌, length, take, drop, Option, None, subst, append_assoc, length-take, inl, arith, take-add, rules}

pub further : (u piece : List ℕ) (at used : ℕ) → (u ++ take at piece) ++ take used (drop at piece) ≡ u ++ take (at + used) piece
further u piece at used = rw (take-add at used piece) (append_assoc u (take at piece) (take used (drop at piece)))

pub whole_piece : (u piece : List ℕ) (at : ℕ) → (u ++ take at piece) ++ drop at piece ≡ u ++ piece
whole_piece u piece at = rw (take-append-drop at piece) at (append_assoc u (take at piece) (drop at piece))

-- with no byte behind, the tokens are those decided
pub decided_at_end : (u : List ℕ) (ts : List Token) → IsDecided u [] ts → ts ≡ decided u
decided_at_end u ts h1 = search rules

pub follows_front : (b : Option ℕ) (piece : List ℕ) (n : ℕ) → Follows b piece → Follows b (take n piece)
follows_front b piece n h = search (rules, take_all)

-- a lexer that stands before any byte stands before this one
pub before_any : {l : Standing} {u : List ℕ} {b : Option ℕ} {given : List Token}
    → StandsAfter l u None given → StandsAfter l u b given
before_any stands = record { count = stands.count; before = stands.before; tokens = λ s k. stands.tokens s tt }

pub stands_before_any : {p : Profile} {c : Converter} {u : List ℕ} {b : Option ℕ} {given : List Token}
    → Stands p c u None given → Stands p c u b given
stands_before_any stands = record { known = stands.known; lexer = before_any stands.lexer; has_read = stands.has_read }

pub before_more : {l : Standing} {u : List ℕ} {given : List Token} (xs : List ℕ) (n : ℕ)
    → StandsAfter l u (first (take n xs)) given → StandsAfter l u (first xs) given
before_more {l} {u} {given} [] n stands = subst (λ ys. StandsAfter l u (first ys) given) (take_all n [] (omega arith)) stands
before_more (x ∷ xs) zero stands = before_any stands
before_more (x ∷ xs) (suc n) stands = stands

pub decided_before : (u : List ℕ) {given : List Token} (xs : List ℕ) (n : ℕ) → IsDecided u (take n xs) given → IsDecided u xs given
decided_before u {given} [] n h = subst (λ ys. IsDecided u ys given) (take_all n [] (omega arith)) h
decided_before u {given} (x ∷ xs) zero h = inl (decided_at_end u given h)
decided_before u (x ∷ xs) (suc n) h = h

-- it is shorter than the piece
pub limit_left : (piece : List ℕ) (n : ℕ) → length (take n piece) < length piece → n < length piece
limit_left piece n h = omega (arith, h, length-take n piece)

pub front_used : (piece : List ℕ) (n used : ℕ) → used ≤ length (take n piece) → used ≤ n
front_used piece n used h = omega (arith, h, length-take n piece)
