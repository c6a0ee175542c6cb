-- **Definition**: the classes of bytes outside strings and comments (PGN 5, 6, 7, 8.2.3.8).
use Rattle.pgn_lexer.specs.declared.token.LexReason.{LexReason}

-- the tokens of one byte (PGN 7): [ ] ( ) . *
pub data Single : Type 0 where
  LeftBracket : Single
  RightBracket : Single
  LeftParen : Single
  RightParen : Single
  Period : Single
  Asterisk : Single

pub data Class : Type 0 where
  LineEnd : Class
  Space : Class
  Percent : Class
  SymbolStart : Class
  Quote : Class
  Dollar : Class
  Suffix : Class
  OpenBrace : Class
  Semicolon : Class
  Alone : Single → Class
  Refused : LexReason → Class
