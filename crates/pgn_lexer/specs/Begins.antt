-- **Bookkeeping**: what a byte between tokens begins, by its class.
use Rattle.std.specs.Prelude.{List, ℕ}
use Rattle.pgn_lexer.specs.Class.{Class}
use Rattle.pgn_lexer.specs.Class as classes
use Rattle.pgn_lexer.specs.CommentClass.{CommentClass}
use Rattle.pgn_lexer.specs.CommentClass as comment_classes
use Rattle.pgn_lexer.specs.declared.partial_token.CommentEnd.{CommentEnd}
use Rattle.pgn_lexer.specs.declared.partial_token.CommentEnd.TheVariants as closes
use Rattle.pgn_lexer.specs.declared.partial_token.LexMode.TheVariants.{LineStart, Outside, Comment}
use Rattle.pgn_lexer.specs.declared.partial_token.Sign.TheVariants as signs
use Rattle.pgn_lexer.specs.declared.partial_token.Text.TheVariants as texts
use Rattle.pgn_lexer.specs.declared.partial_token.begins.Begins.{Begins}
use Rattle.pgn_lexer.specs.declared.partial_token.begins.Begins.TheVariants.{Gap, Text, Str, Dollar, Alone, Refused}
use Rattle.pgn_lexer.specs.declared.token.LexReason.TheVariants.{StrayByte, ControlByte, BraceInLineComment}
use Rattle.pgn_lexer.specs.PartialToken.{HasMore}

abbrev pub begins_outside : Class → Begins
begins_outside classes.LineEnd = Gap LineStart
begins_outside classes.Space = Gap Outside
begins_outside classes.Percent = Refused StrayByte
begins_outside classes.SymbolStart = Text texts.Symbol
begins_outside classes.Quote = Str
begins_outside classes.Dollar = Dollar
begins_outside classes.Suffix = Text texts.Suffix
begins_outside classes.OpenBrace = Alone signs.CommentOpen (Comment closes.Brace)
begins_outside classes.Semicolon = Alone signs.CommentOpen (Comment closes.LineEnd)
begins_outside (classes.Alone classes.LeftBracket) = Alone signs.LeftBracket Outside
begins_outside (classes.Alone classes.RightBracket) = Alone signs.RightBracket Outside
begins_outside (classes.Alone classes.LeftParen) = Alone signs.LeftParen Outside
begins_outside (classes.Alone classes.RightParen) = Alone signs.RightParen Outside
begins_outside (classes.Alone classes.Period) = Alone signs.Period Outside
begins_outside (classes.Alone classes.Asterisk) = Alone signs.Asterisk Outside
begins_outside (classes.Refused reason) = Refused reason

-- between the words of a comment
abbrev pub begins_in_comment : CommentEnd → CommentClass → Begins
begins_in_comment closes.Brace comment_classes.CloseBrace = Alone signs.CommentClose Outside
begins_in_comment closes.LineEnd comment_classes.LineEnd = Alone signs.CommentClose LineStart
begins_in_comment closes.LineEnd comment_classes.CloseBrace = Refused BraceInLineComment
begins_in_comment close comment_classes.WordByte = Text (texts.Word close)
begins_in_comment close comment_classes.Control = Refused ControlByte
begins_in_comment close _ = Gap (Comment close)

-- the buffer has what the mode behind the byte needs
abbrev pub Fits : Begins → List ℕ → Type 0
Fits (Gap mode) text = HasMore mode text
Fits (Alone sign mode) text = HasMore mode text
Fits _ text = Unit {0}
