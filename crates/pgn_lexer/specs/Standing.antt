-- **Definition**: the value that contracts see of a lexer, and the tokens that it still gives.
use Rattle.std.specs.Prelude.{ℕ, List, Option, None, Some}
use Rattle.pgn_lexer.specs.declared.token.LexFault.{LexFault}
use Rattle.pgn_lexer.specs.declared.partial_token.LexMode.{LexMode}
use Rattle.pgn_lexer.specs.declared.partial_token.LexMode.TheVariants.{Failed}
use Rattle.pgn_lexer.specs.Tokens.{Token}
use Rattle.pgn_lexer.specs.PartialToken.{PartialToken, tokens_to_come, pending}

-- the place of the next byte, and what is stored of the current token
pub record Standing : Type 0 where
  pub count : ℕ
  pub held : PartialToken

-- the tokens that it still gives, if the bytes not used yet are s
abbrev pub coming : Standing → List ℕ → List Token
coming l s = tokens_to_come l.count l.held s

-- how many tokens at most it gives before it uses another byte
abbrev pub waiting : Standing → ℕ
waiting l = pending l.held

abbrev pub fault_in_mode : LexMode → ℕ → Option LexFault
fault_in_mode (Failed reason) at = Some (record { at = at; reason = reason })
fault_in_mode _ at = None

-- the error that it met, at the place that is stored
abbrev pub fault_of : Standing → Option LexFault
fault_of l = fault_in_mode l.held.mode l.held.at
