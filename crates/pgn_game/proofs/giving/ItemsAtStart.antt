-- White space decides no token.
use Rattle.pgn_game.proofs.Words.{◌≡◌, ℕ, zero, suc, ◌+◌, ◌==◌, Bool, true, false, ◌&&◌, List, [], ◌∷◌, ◌++◌, codes, if◌then◌else◌, drop, refl, sym, ap, ◌∙◌, arith, append-nil, append_assoc, Token, tokens_of, decided, rules}
use Rattle.std.specs.Prelude.{replicate}
use Rattle.pgn_lexer.specs.Tokens.{end, symbol}
use Rattle.pgn_lexer.specs.Decided.{common}
use Rattle.pgn_lexer.specs.TokensOf.{Within, column, outside, has_mark, tokens_from}
use Rattle.pgn_lexer.specs.WhiteSpace.{white_space}

no_mark : (b : ℕ) (s : List ℕ) → (b == 239) ≡ false → has_mark (b ∷ s) ≡ false
no_mark b s is = search rules

from_start : (s : List ℕ) → has_mark s ≡ false → tokens_of s ≡ tokens_from 0 column s
from_start s is = ap (λ (b : Bool). elim b [ true ↦ tokens_from 3 column (drop 3 s) | false ↦ tokens_from 0 column s ]) is

behind_spaces : (at n : ℕ) (s : List ℕ) → tokens_from at outside (replicate n 32 ++ s) ≡ tokens_from (at + n) outside s
behind_spaces at zero s = ap (λ (k : ℕ). tokens_from k outside s) (omega arith)
behind_spaces at (suc n) s = behind_spaces (at + 1) n s ∙ ap (λ (k : ℕ). tokens_from k outside s) (omega arith)

-- the last byte of white space
abbrev last_byte : Bool → ℕ
last_byte in_first_column = if in_first_column then 10 else 32

abbrev place_in : Bool → Within
place_in true = column
place_in false = outside

last_outside : (at : ℕ) (c : Bool) (s : List ℕ) → tokens_from at outside (last_byte c ∷ s) ≡ tokens_from (at + 1) (place_in c) s
last_outside at c s = search rules

last_column : (c : Bool) (s : List ℕ) → tokens_of (last_byte c ∷ s) ≡ tokens_from 1 (place_in c) s
last_column c s = search (rules, from_start, no_mark)

behind_white_space : (n : ℕ) (c : Bool) (s : List ℕ) → tokens_of (white_space (suc n) c ++ s) ≡ tokens_from (suc n) (place_in c) s
behind_white_space n c s = ap tokens_of (append_assoc (replicate n 32) (last_byte c ∷ []) s) ∙ by n
  where
    by : (n : ℕ) → tokens_of (replicate n 32 ++ last_byte c ∷ s) ≡ tokens_from (suc n) (place_in c) s
    by zero = last_column c s
    by (suc n) =
        from_start (32 ∷ replicate n 32 ++ last_byte c ∷ s) (no_mark 32 (replicate n 32 ++ last_byte c ∷ s) refl)
        ∙ behind_spaces 1 n (last_byte c ∷ s) ∙ last_outside (1 + n) c s ∙ ap (λ (k : ℕ). tokens_from k (place_in c) s) (omega arith)

-- the end differs from a symbol
abbrev end_at : ℕ → Token
end_at at = record { at = at; kind = end }

abbrev symbol_at : ℕ → List ℕ → Token
symbol_at at text = record { at = at; kind = symbol text }

not_both : (b : Bool) → (b && false) ≡ false
not_both b = search rules

none_common : (at : ℕ) (text : List ℕ) (ts us : List Token) → common (end_at at ∷ []) (common (symbol_at at text ∷ ts) us) ≡ []
none_common at text ts us = search (rules, not_both)

module _ (u : List ℕ) (at : ℕ) (text : List ℕ) (ts : List Token) (ends : tokens_of u ≡ end_at at ∷ [])
    (goes : tokens_of (u ++ codes "1") ≡ symbol_at at text ∷ ts) where
  none_decided : decided u ≡ []
  none_decided = search (rules, none_common)

pub spaces_decide_none : (n : ℕ) (c : Bool) → decided (white_space n c) ≡ []
spaces_decide_none zero c = refl
spaces_decide_none (suc n) true =
    none_decided (white_space (suc n) true) (suc n) (49 ∷ []) (end_at (suc n + 1) ∷ [])
    (ap tokens_of (sym (append-nil (white_space (suc n) true))) ∙ behind_white_space n true []) (behind_white_space n true (codes "1"))
spaces_decide_none (suc n) false =
    none_decided (white_space (suc n) false) (suc n) (49 ∷ []) (end_at (suc n + 1) ∷ [])
    (ap tokens_of (sym (append-nil (white_space (suc n) false))) ∙ behind_white_space n false []) (behind_white_space n false (codes "1"))
