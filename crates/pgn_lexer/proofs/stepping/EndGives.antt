-- The end of the text gives what is left.
use Rattle.pgn_lexer.proofs.Words.{◌≡◌, ℕ, List, [], ◌∷◌, ◌++◌, LexFault, LexReason, TokenForm, Token, end, PartialToken, kind_in, fault_met, Scanned, Kind, fault, Standing, IsNext, HasLeft, Finishes, arith, common_steps}
use Rattle.pgn_lexer.specs.Scanned.{token}
use Rattle.pgn_lexer.proofs.stepping.ByteGives.{ClosesToken, ClosesFault, ClosesEnd}
use Rattle.pgn_lexer.proofs.stepping.StandsAfterCalls.{same_parts}

next_kind : (k : Kind) → (k ≡ end → ⊥) → (u : List ℕ) (given : List Token) (new : Standing) (t : Token) → HasLeft new u (given ++ t ∷ [])
    → IsNext u given k new t
next_kind k not_end u given new t h1 = grind arith

module _ (count : ℕ) (old new : PartialToken) where
  abbrev before : Standing
  before = record { count = count; held = old }

  abbrev after : Standing
  after = record { count = count; held = new }

  pub finishes_end : ClosesEnd count old new → Finishes before after (token (record { at = count; kind = end }))
  finishes_end h = grind arith

  pub finishes_token : (form : TokenForm) (t : Token) → t.at ≡ new.at → t.kind ≡ kind_in form new.text → ClosesToken count old form new
      → Finishes before after (token t)
  finishes_token form t at kind h = grind (arith, common_steps, same_parts, next_kind)

  -- the fault that is told is the one that was met
  pub finishes_told : (reason : LexReason) (told : LexFault) → told ≡ fault_met reason new → ClosesFault count old reason new → Finishes before after (fault told)
  finishes_told reason told is h = grind arith

-- what is said of one view of a lexer, of the other
pub finishes_of : (old old' new : Standing) (seen : Scanned) → old ≡ old' → Finishes old new seen → Finishes old' new seen
finishes_of old old' new seen e = grind arith
