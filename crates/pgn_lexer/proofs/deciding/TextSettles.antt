-- Each text brings a lexer to a place from which nothing is decided yet, or to a rejection.
use Rattle.pgn_lexer.proofs.Words.{◌≡◌, ℕ, zero, suc, ◌+◌, ◌*◌, ◌<◌, ◌≤◌, Bool, List, [], ◌∷◌, ◌++◌, length, drop, refl, sym, ap, ◌∙◌, append-nil, append_assoc, arith, take-append-drop, take_while, LexMode, ByteResult, Used, Ends, EndsBefore, Fault, Token, tokens_of, PartialToken, tokens_to_come, token_of, refusal, IsSound, HasNotFailed, pending_in, pending, fault_met, after_byte, IsPrefix, DecidedIsPrefix, KnownIsPrefix, rules}
use Rattle.pgn_lexer.proofs.stepping.StepGives.{StepGives, front_of}
use Rattle.pgn_lexer.proofs.stepping.ByteGives.{step_gives}
use Rattle.pgn_lexer.proofs.deciding.GivenAreDecided.{common_of, decided_is, going_none}

-- Whatever follows, the tokens are those given and then others, which have nothing in common.
record Settles (tokens : List ℕ → List Token) : Type 0 where
  given : List Token
  later : List ℕ → List Token
  comes : (s : List ℕ) → tokens s ≡ given ++ later s
  none : common_of (later []) (later (49 ∷ [])) (later (33 ∷ []))
      (later (34 ∷ 34 ∷ [])) (later (191 ∷ [])) (later (187 ∷ 191 ∷ [])) ≡ []

-- at most two tokens wait
pub few : (m : LexMode) → pending_in m ≤ 2
few m = grind arith

after_token : (tokens rest : List ℕ → List Token) (t : Token) → ((s : List ℕ) → tokens s ≡ t ∷ rest s) → Settles rest
    → Settles tokens
after_token tokens rest t same h =
    record { given = t ∷ h.given; later = h.later; comes = λ s. same s ∙ ap (λ l. t ∷ l) (h.comes s); none = h.none }

same_tokens : (tokens rest : List ℕ → List Token) → ((s : List ℕ) → tokens s ≡ rest s) → Settles rest → Settles tokens
same_tokens tokens rest same h = grind arith

-- by the bytes left, and the tokens that wait
settles : (n : ℕ) (u : List ℕ) (place : ℕ) (h : PartialToken) → 3 * length u + pending h ≤ n → IsSound place h → HasNotFailed h.mode
    → Settles (λ s. tokens_to_come place h (u ++ s))
settles n [] place h enough sound not_failed =
    record { given = []; later = tokens_to_come place h; comes = λ s. refl; none = going_none place h sound not_failed }
settles zero (b ∷ u) place h enough sound not_failed = absurd (omega arith)
settles (suc n) (b ∷ u) place h enough sound not_failed =
    by_step (after_byte place h b).held (after_byte place h b).step (step_gives place h b sound)
    (λ new fewer sound not_failed. settles n u _ new fewer sound not_failed)
    (λ new fewer sound not_failed. settles n (b ∷ u) place new fewer sound not_failed)
  where
    by_step : (new : PartialToken) (step : ByteResult) → StepGives (front_of place h b) new step
        → ((new : PartialToken) → 3 * length u + pending new ≤ n → IsSound (place + 1) new
        → HasNotFailed new.mode → Settles (λ s. tokens_to_come (place + 1) new (u ++ s)))
        → ((new : PartialToken) → 3 * length (b ∷ u) + pending new ≤ n → IsSound place new
        → HasNotFailed new.mode → Settles (λ s. tokens_to_come place new ((b ∷ u) ++ s)))
        → Settles (λ s. tokens_to_come place h ((b ∷ u) ++ s))
    by_step new Used g on again = same_tokens _ _ (λ s. g.comes (u ++ s)) (on new (omega (arith, few new.mode)) g.sound g.not_failed)
    by_step new (Ends form) g on again = after_token _ _ (token_of form new) (λ s. g.comes (u ++ s)) (on new (omega arith) g.sound g.not_failed)
    by_step new (EndsBefore form) g on again =
        let less : pending new < pending h = g.less in
        after_token _ _ (token_of form new) (λ s. g.comes (u ++ s)) (again new (omega arith) g.sound g.not_failed)
    by_step new (Fault reason) g on again =
        record { given = refusal (fault_met reason new) ∷ []; later = λ s. []; comes = λ s. g.comes (u ++ s); none = refl }

abbrev at_start : PartialToken
at_start = record { mode = LexMode.Start; at = 0; text = [] }

text_settles : (u : List ℕ) → Settles (λ s. tokens_of (u ++ s))
text_settles u = settles (3 * length u) u 0 at_start (omega arith) omega arith tt

pub decided_is_prefix : DecidedIsPrefix
decided_is_prefix u s =
    let h = text_settles u in
    let all = decided_is h.given u h.later h.comes ∙ ap (λ l. h.given ++ l) h.none ∙ append-nil _ in
    (h.later s, h.comes s ∙ ap (λ l. l ++ h.later s) (sym all))

prefix_trans : (xs ys zs : List Token) → IsPrefix xs ys → IsPrefix ys zs → IsPrefix xs zs
prefix_trans xs ys zs p q = grind (arith, append_assoc)

take_while_front : (p : Token → Bool) (ts : List Token) → IsPrefix (take_while p ts) ts
take_while_front p ts = (drop _ ts, sym (take-append-drop _ ts))

pub known_is_prefix : KnownIsPrefix
known_is_prefix u s b =
    let front = decided_is_prefix (u ++ b ∷ []) s in
    let whole : IsPrefix _ _ = (front.0, sym (ap tokens_of (append_assoc u _ s)) ∙ front.1) in search (rules, prefix_trans, take_while_front)
