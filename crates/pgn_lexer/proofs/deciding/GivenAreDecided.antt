-- The tokens given are those that are decided.
use Rattle.pgn_lexer.proofs.Words.{◌≡◌, ℕ, List, [], ◌∷◌, ◌++◌, sym, ap, ◌∙◌, append-nil, arith, Token, tokens_of, common, decided, PartialToken, IsSound, HasNotFailed, tokens_to_come, common_steps}
use Rattle.pgn_lexer.proofs.deciding.CommonTokens.{common-append, common-refl}

-- what all six lists begin with
abbrev pub common_of : List Token → List Token → List Token → List Token → List Token → List Token → List Token
common_of a b c d e f = common a (common b (common c (common d (common e f))))

common_of-append : (ts a b c d e f : List Token)
    → common_of (ts ++ a) (ts ++ b) (ts ++ c) (ts ++ d) (ts ++ e) (ts ++ f) ≡ ts ++ common_of a b c d e f
common_of-append ts a b c d e f = grind (arith, common-append)

-- what is decided, where the tokens of all texts that begin with u are known to begin with those
-- given
pub decided_is : (given : List Token) (u : List ℕ) (comes : List ℕ → List Token)
    → ((s : List ℕ) → tokens_of (u ++ s) ≡ given ++ comes s) → decided u
    ≡ given ++ common_of (comes []) (comes (49 ∷ [])) (comes (33 ∷ []))
    (comes (34 ∷ 34 ∷ [])) (comes (191 ∷ [])) (comes (187 ∷ 191 ∷ []))
decided_is given u comes tokens = grind (arith, append-nil, common_of-append)

-- what a lexer that goes on gives next is not decided yet
module _ (place : ℕ) (h : PartialToken) where
  pub going_none : IsSound place h → HasNotFailed h.mode → common_of (tokens_to_come place h []) (tokens_to_come place h (49 ∷ []))
      (tokens_to_come place h (33 ∷ [])) (tokens_to_come place h (34 ∷ 34 ∷ [])) (tokens_to_come place h (191 ∷ []))
      (tokens_to_come place h (187 ∷ 191 ∷ [])) ≡ []
  going_none sound not_failed = grind (arith, common_steps)

  -- of a lexer that goes on, nothing more is decided
  pub going_decides : (u : List ℕ) (given : List Token) → IsSound place h → HasNotFailed h.mode
      → ((s : List ℕ) → tokens_of (u ++ s) ≡ given ++ tokens_to_come place h s) → given ≡ decided u
  going_decides u given sound not_failed tokens = grind (arith, decided_is, going_none sound not_failed, append-nil given)

-- and where the same comes whatever follows, all of it is decided
pub known_decides : (u : List ℕ) (given more : List Token) → ((s : List ℕ) → tokens_of (u ++ s) ≡ given ++ more)
    → given ++ more ≡ decided u
known_decides u given more tokens =
    let same : common_of more more more more more more ≡ more = cc (common-refl more) in
    sym (decided_is given u _ tokens ∙ ap (λ l. given ++ l) same)
