-- **Definition**: which tokens a lexer gives and still has to give, and what each call does to it.
-- Letters: l is a lexer, u the bytes used so far, b the byte known to be next, if one is. `given`
-- are the tokens given so far, s any bytes that come after.
use Rattle.std.specs.Prelude.{◌≡◌, ℕ, ◌+◌, ◌-◌, ◌*◌, ◌<◌, ◌≤◌, ◌⊎◌, List, [], ◌∷◌, ◌++◌, length, take, drop, Option, None, Some, Bool, true, false}
use Rattle.std.specs.List.{AllByRecursion}
use Rattle.std.specs.Borrow.{Fml, MutBor}
use Rattle.std.specs.Io.BufRead.{Rests}
use Rattle.pgn_lexer.specs.contracts.lexer.Lexer.{the_row}
use Rattle.pgn_lexer.specs.declared.token.LexFault.{LexFault}
use Rattle.pgn_lexer.specs.Tokens.{Kind, Token, end, is_run}
use Rattle.pgn_lexer.specs.TokensOf.{tokens_of}
use Rattle.pgn_lexer.specs.Decided.{decided, known}
use Rattle.pgn_lexer.specs.PartialToken.{refusal}
use Rattle.pgn_lexer.specs.Scanned.{Scanned, more, token, fault, fault_in, HasLengthIn, EndsIn}
use Rattle.pgn_lexer.specs.Standing.{Standing, coming, waiting, fault_of}

-- s is empty, or begins with the byte that was seen
abbrev pub Follows : Option ℕ → List ℕ → Type 0
Follows None s = Unit {0}
Follows (Some b) [] = Unit {0}
Follows (Some b) (c ∷ s) = c ≡ b

-- the first byte
abbrev pub first : List ℕ → Option ℕ
first [] = None
first (b ∷ bs) = Some b

-- The lexer has used the bytes u and given these tokens; b, if there is one, is known to be the
-- next byte. For every continuation, the tokens of the whole text are those given, and then those
-- that the lexer still gives.
pub record StandsAfter (l : Standing) (u : List ℕ) (b : Option ℕ) (given : List Token) : Type 0 where
  pub count : l.count ≡ length u
  pub before : AllByRecursion (λ t. t.at < length u) given
  pub tokens : (s : List ℕ) → Follows b s → tokens_of (u ++ s) ≡ given ++ coming l s

-- the byte known to be next after a piece that was used whole
abbrev pub still : Option ℕ → List ℕ → Option ℕ
still b [] = b
still b (c ∷ piece) = None

-- The tokens given after a token are those that u decides, or those known with the byte that was
-- not used.
abbrev pub IsDecided : List ℕ → List ℕ → List Token → Type 0
IsDecided u rest given = (given ≡ decided u) ⊎ ((b : ℕ) × (first rest ≡ Some b) × (given ≡ known u b))

-- The token ends there, and no sooner. All bytes of a run do not decide it yet: the byte after them
-- does. The bytes of any other token do not decide it without the last one.
abbrev pub EndsNoSooner : Bool → List ℕ → List ℕ → ℕ → List Token → Type 0
EndsNoSooner true u piece used given = 0 < used → given ≡ decided (u ++ take used piece)
EndsNoSooner false u piece used given = 1 < used → given ≡ decided (u ++ take (used - 1) piece)

-- what a call leaves: the lexer stands after more bytes, or the text is rejected
abbrev pub AfterScan : List ℕ → Option ℕ → List Token → List ℕ → Standing → ℕ → Scanned → Type 0
AfterScan u b given piece new used more =
    (used ≡ length piece) × StandsAfter new (u ++ piece) (still b piece) given × (0 < length piece → given ≡ decided (u ++ piece))
AfterScan u b given piece new used (token t) =
    StandsAfter new (u ++ take used piece) (first (drop used piece)) (given ++ t ∷ []) × IsDecided (u ++ take used piece) (drop used piece) (given ++ t ∷ [])
    × EndsNoSooner (is_run t.kind) u piece used given
AfterScan u b given piece new used (fault f) =
    ((s : List ℕ) → Follows (still b piece) s → tokens_of (u ++ piece ++ s) ≡ given ++ refusal f ∷ [])
    × (0 < length piece → given ++ refusal f ∷ [] ≡ decided (u ++ piece))

-- a call carries the relation on
abbrev pub Carries : Standing → List ℕ → Standing → ℕ → Scanned → Type 0
Carries old piece new used seen =
    (u : List ℕ) (b : Option ℕ) (given : List Token) → StandsAfter old u b given → Follows b piece → AfterScan u b given piece new used seen

-- What a call gives, if the text continues with the piece and then with any s.
abbrev pub Reads : Standing → List ℕ → Standing → ℕ → Scanned → Type 0
Reads old piece new used more = (used ≡ length piece) × ((s : List ℕ) → coming old (piece ++ s) ≡ coming new s)
Reads old piece new used (token t) = (s : List ℕ) → coming old (piece ++ s) ≡ t ∷ coming new (drop used piece ++ s)
Reads old piece new used (fault f) = (s : List ℕ) → coming old (piece ++ s) ≡ refusal f ∷ []

-- A call that gives a token uses a byte, or one token less is waiting after it. So only so many
-- calls give a token: each lowers twice the bytes that are left plus the tokens that are waiting.
abbrev pub Advances : Standing → Standing → ℕ → Scanned → Type 0
Advances old new used more = Unit {0}
Advances old new used (token t) = waiting new < 2 * used + waiting old
Advances old new used (fault f) = Unit {0}

-- What a call of `next` does. An empty piece changes nothing and gives no token. After an error
-- each call returns it again, uses no byte and changes nothing. At most two tokens are waiting.
pub record Scans (old : Standing) (piece : List ℕ) (new : Standing) (used : ℕ) (seen : Scanned) : Type 0 where
  pub count : new.count ≡ old.count + used
  pub advances : Advances old new used seen
  pub few : waiting new ≤ 2
  pub reads : Reads old piece new used seen
  pub carries : Carries old piece new used seen
  pub lengths : HasLengthIn seen
  pub ends : EndsIn seen new.count
  pub refused : fault_of new ≡ fault_in seen
  pub empty : length piece ≡ 0 → (new ≡ old) × ((seen ≡ more) ⊎ ((f : LexFault) × (fault_of old ≡ Some f)))
  pub stays : (f : LexFault) → fault_of old ≡ Some f → (used ≡ 0) × (seen ≡ fault f) × (new ≡ old)

-- What a call of `finish` gives: the next of the tokens that are left, the end again and again, or
-- the error.
abbrev pub FinishGivesToken : Kind → Standing → Standing → Token → Type 0
FinishGivesToken end old new t = (coming old [] ≡ t ∷ []) × (new ≡ old)
FinishGivesToken _ old new t = (coming old [] ≡ t ∷ coming new []) × (waiting new < waiting old)

abbrev pub FinishGives : Standing → Standing → Scanned → Type 0
FinishGives old new more = ⊥
FinishGives old new (token t) = FinishGivesToken t.kind old new t
FinishGives old new (fault f) = coming old [] ≡ refusal f ∷ []

-- of the tokens of the whole text u, these were given, and the lexer still gives the rest
abbrev pub HasLeft : Standing → List ℕ → List Token → Type 0
HasLeft l u given = tokens_of u ≡ given ++ coming l []

abbrev pub IsNext : List ℕ → List Token → Kind → Standing → Token → Type 0
IsNext u given end new t = tokens_of u ≡ given ++ t ∷ []
IsNext u given _ new t = HasLeft new u (given ++ t ∷ [])

-- what is left of the text u
abbrev pub AfterClose : List ℕ → List Token → Standing → Scanned → Type 0
AfterClose u given new more = ⊥
AfterClose u given new (token t) = IsNext u given t.kind new t
AfterClose u given new (fault f) = tokens_of u ≡ given ++ refusal f ∷ []

-- What a call of `finish` does. It uses no byte.
pub record Finishes (old new : Standing) (seen : Scanned) : Type 0 where
  pub count : new.count ≡ old.count
  pub closes : FinishGives old new seen
  pub lengths : HasLengthIn seen
  pub left : (u : List ℕ) (given : List Token) → HasLeft old u given → AfterClose u given new seen
  pub refused : fault_of new ≡ fault_in seen
  pub stays : (f : LexFault) → fault_of old ≡ Some f → (seen ≡ fault f) × (new ≡ old)

-- once the borrow ends, P is true of the lexer
abbrev pub Leaves : MutBor Standing → (Standing → Type 0) → Fml
Leaves s P = Rests the_row s P
