-- What is read of a text, from wherever a converter stands in it: one token, and calls in turn.
use Rattle.pgn_game.proofs.Words.{within_limit, ◌≡◌, ℕ, ◌+◌, ◌-◌, ◌≤◌, ◌^◌, List, [], ◌++◌, length, take, drop, Option, None, sym, ap, subst, ◌∙◌, arith, append-nil, length-take, take-append-drop, take-take, drop-take, take_all, drop_of_length-le, Token, Standing, StandsAfter, IsDecided, ahead_of, take-nil, first, decided, Device, AreNext, StandsInText, rules}
use Rattle.pgn_game.proofs.stepping.AcceptedToConverter.{next_in_piece}
use Rattle.pgn_game.proofs.stepping.StepsInPiece.{decided_at_end}

abbrev pub between : Option (List ℕ) → Option (List ℕ) → ℕ → ℕ → Device
between a c x y = record { before = a; after = c; failures = x; failures_after = y }

-- a text goes on behind the tokens of its bytes
pub next_of : (s : List ℕ) (l : Standing) (tokens : List Token) → StandsInText s l tokens → AreNext s tokens
next_of s l tokens on =
    let u = take l.count s in
    rw (take-append-drop l.count s) at
    (next_in_piece l u (drop l.count s) 0 (subst (λ xs. StandsAfter l xs (first (drop l.count s)) tokens) (sym (append-nil u)) on.stands))

-- ---- the bytes of a text before place 2^62

-- what was ahead in them, and is read
pub front_ahead : (s piece : List ℕ) (at room : ℕ) → drop at s ≡ piece → at + room ≡ 2 ^ 62 → drop at (within_limit s) ≡ take room piece
front_ahead s piece at room ahead limit = ap (λ n. drop at (take n s)) (sym limit) ∙ drop-take at room s ∙ ap (take room) ahead

-- the same where a lexer stands that looked at no byte from there on
module _ (s : List ℕ) (l : Standing) (unused : List ℕ) (tokens : List Token) (on : StandsInText (within_limit s) l tokens) (is : drop l.count s ≡ unused) where
  few : l.count ≤ 2 ^ 62
  few = omega (arith, on.inside, length-take (2 ^ 62) s)

  size : length (take l.count s) ≡ l.count
  size = omega (arith, on.inside, length-take (2 ^ 62) s, length-take l.count s)

  up_to : take l.count (within_limit s) ≡ take l.count s
  up_to = take-take l.count (2 ^ 62) s few

  left : drop l.count (within_limit s) ≡ ahead_of (take l.count s) unused
  left = front_ahead s unused l.count (2 ^ 62 - l.count) is (omega (arith, few)) ∙ ap (λ n. take (2 ^ 62 - n) unused) (sym size)

  pub bytes_in : s ≡ take l.count s ++ unused
  bytes_in = sym (take-append-drop l.count s) ∙ ap (λ xs. take l.count s ++ xs) is

  pub stands_in : StandsAfter l (take l.count s) (first (ahead_of (take l.count s) unused)) tokens
  stands_in = rw (up_to, left) at on.stands

  pub decided_in : IsDecided (take l.count s) (ahead_of (take l.count s) unused) tokens
  decided_in = rw (up_to, left) at on.decided

-- where none of them is left, those used decide the tokens
pub decided_by_used : (used unused : List ℕ) (given : List Token) → ahead_of used unused ≡ [] → IsDecided used (ahead_of used unused) given → given ≡ decided used
decided_by_used used unused given none h = decided_at_end used given (rw none at h)

pub none_ahead : (used unused : List ℕ) → unused ≡ [] → ahead_of used unused ≡ []
none_ahead used unused none = ap (take (2 ^ 62 - length used)) none ∙ take-nil (2 ^ 62 - length used)

-- all bytes of a text were read
pub used_up : (s : List ℕ) (l : Standing) (tokens : List Token) → StandsInText s l tokens → length s ≤ l.count → StandsAfter l s None tokens × (tokens ≡ decided s)
used_up s l tokens on size = search (rules, take_all, drop_of_length-le, decided_at_end)
