-- What a step must give, of the tokens that come.
use Rattle.pgn_lexer.proofs.Words.{◌≡◌, ℕ, ◌+◌, ◌<◌, ◌≤◌, List, [], ◌∷◌, true, false, Some, TokenForm, ByteResult, Used, Ends, EndsBefore, Fault, Token, HasLength, EndsAt, is_run, Within, tokens_from, PartialToken, tokens_to_come, kind_in, token_of, refusal, IsSound, HasNotFailed, LexMode, LexReason, pending, fault_met, fault_in_mode, AfterByte}

-- What comes from a byte b at the place: `front s` where s follows b, and `ended` where the text
-- ends before b; `waits` tokens at most came with no byte more.
pub record Front : Type 0 where
  pub place : ℕ
  pub byte : ℕ
  pub front : List ℕ → List Token
  pub ended : List Token
  pub waits : ℕ

-- the byte is used, and no token ends
pub record Uses (f : Front) (new : PartialToken) : Type 0 where
  pub sound : IsSound (f.place + 1) new
  pub not_failed : HasNotFailed new.mode
  pub comes : (s : List ℕ) → f.front s ≡ tokens_to_come (f.place + 1) new s

-- a token ends with the byte
pub record EndsIn (f : Front) (form : TokenForm) (new : PartialToken) : Type 0 where
  pub sound : IsSound (f.place + 1) new
  pub not_failed : HasNotFailed new.mode
  pub before : new.at < f.place + 1
  pub lengths : HasLength (kind_in form new.text)
  pub ends_at : EndsAt (kind_in form new.text) new.at (f.place + 1)
  pub closed : is_run (kind_in form new.text) ≡ false
  pub few : pending new ≤ 1
  pub comes : (s : List ℕ) → f.front s ≡ token_of form new ∷ tokens_to_come (f.place + 1) new s

-- a token ends before the byte
pub record EndsAhead (f : Front) (form : TokenForm) (new : PartialToken) : Type 0 where
  pub sound : IsSound f.place new
  pub not_failed : HasNotFailed new.mode
  pub before : new.at < f.place
  pub lengths : HasLength (kind_in form new.text)
  pub ends_at : EndsAt (kind_in form new.text) new.at f.place
  pub runs : is_run (kind_in form new.text) ≡ true
  pub few : pending new ≤ 1
  pub less : pending new < f.waits
  pub within : Within
  pub settled : (s : List ℕ) → tokens_to_come f.place new s ≡ tokens_from f.place within s
  pub comes : (s : List ℕ) → f.front s ≡ token_of form new ∷ tokens_to_come f.place new (f.byte ∷ s)
  pub at_end : f.ended ≡ token_of form new ∷ tokens_to_come f.place new []

-- the byte is rejected
pub record Fails (f : Front) (reason : LexReason) (new : PartialToken) : Type 0 where
  pub sound : IsSound (f.place + 1) new
  pub fails : fault_in_mode new.mode new.at ≡ Some (fault_met reason new)
  pub comes : (s : List ℕ) → f.front s ≡ refusal (fault_met reason new) ∷ []

abbrev pub StepGives : Front → PartialToken → ByteResult → Type 0
StepGives f new Used = Uses f new
StepGives f new (Ends form) = EndsIn f form new
StepGives f new (EndsBefore form) = EndsAhead f form new
StepGives f new (Fault reason) = Fails f reason new

abbrev pub Gives : Front → AfterByte → Type 0
Gives f t = StepGives f t.held t.step

abbrev pub front_by : (place b : ℕ) → List Token → ℕ → (List ℕ → List Token) → Front
front_by place b ended waits front = record { place = place; byte = b; front = front; ended = ended; waits = waits }

-- what comes from a byte, of a lexer that holds h
abbrev pub front_of : ℕ → PartialToken → ℕ → Front
front_of place h b = front_by place b (tokens_to_come place h []) (pending h) (λ s. tokens_to_come place h (b ∷ s))

abbrev pub holds : LexMode → ℕ → List ℕ → PartialToken
holds mode at text = record { mode = mode; at = at; text = text }

-- a result for what is held in a mode gives what comes
abbrev pub GivesIn : LexMode → (place at b : ℕ) → List ℕ → (PartialToken → AfterByte) → Type 0
GivesIn mode place at b text result = Gives (front_of place (holds mode at text) b) (result (holds mode at text))
