-- **Definition**: the reasons with their numbers and words, and the line of a fault.
use Rattle.std.specs.Prelude.{ℕ, List, [], ◌++◌, codes, decimal}
use Rattle.pgn_lexer.specs.declared.token.LexReason.{LexReason}
use Rattle.pgn_lexer.specs.declared.token.LexReason.TheVariants as lex_reasons
use Rattle.pgn_game.specs.declared.reason.Reason.{Reason}
use Rattle.pgn_game.specs.declared.reason.Reason.TheVariants.{Lexical, ExpectedName, BadTagName, DuplicateTag, TooManyTags, ExpectedValue, BadResult, BadFen, TagLineTooLong, ExpectedBracket, SetUpWithoutFen, ReducedFen, TagInMovetext, NotAMove, IllegalMove, AmbiguousMove, MoveLimit, NoMoveBefore, TooDeep, UnmatchedClose, MarkerInVariation, ResultDiffers, UnexpectedEnd, ReadFault, WriteFault, InputTooLong, Changed}
use Rattle.pgn_game.specs.declared.reason.Fault.{Fault}

-- the number of each reason of the lexer
abbrev pub lexical_number_of : LexReason → ℕ
lexical_number_of lex_reasons.StrayByte = 1
lexical_number_of lex_reasons.ControlByte = 2
lexical_number_of lex_reasons.Reserved = 3
lexical_number_of lex_reasons.SymbolTooLong = 4
lexical_number_of lex_reasons.StringTooLong = 5
lexical_number_of lex_reasons.WordTooLong = 6
lexical_number_of lex_reasons.LoneDollar = 7
lexical_number_of lex_reasons.GlyphRange = 8
lexical_number_of lex_reasons.BadSuffix = 9
lexical_number_of lex_reasons.BraceInLineComment = 10
lexical_number_of lex_reasons.UnclosedString = 11
lexical_number_of lex_reasons.UnclosedComment = 12

-- the number of each reason
abbrev pub number_of : Reason → ℕ
number_of (Lexical r) = lexical_number_of r
number_of ExpectedName = 20
number_of BadTagName = 21
number_of DuplicateTag = 22
number_of TooManyTags = 23
number_of ExpectedValue = 24
number_of BadResult = 25
number_of (BadFen field) = 26
number_of TagLineTooLong = 27
number_of ExpectedBracket = 28
number_of SetUpWithoutFen = 30
number_of ReducedFen = 31
number_of TagInMovetext = 32
number_of NotAMove = 33
number_of IllegalMove = 34
number_of AmbiguousMove = 35
number_of MoveLimit = 36
number_of NoMoveBefore = 37
number_of TooDeep = 38
number_of UnmatchedClose = 39
number_of MarkerInVariation = 40
number_of ResultDiffers = 41
number_of UnexpectedEnd = 42
number_of ReadFault = 50
number_of WriteFault = 51
number_of InputTooLong = 52
number_of Changed = 53

-- the words of each reason of the lexer
abbrev pub lexical_words_of : LexReason → List ℕ
lexical_words_of lex_reasons.StrayByte = codes "stray byte"
lexical_words_of lex_reasons.ControlByte = codes "control byte"
lexical_words_of lex_reasons.Reserved = codes "reserved character"
lexical_words_of lex_reasons.SymbolTooLong = codes "symbol is too long"
lexical_words_of lex_reasons.StringTooLong = codes "string is too long"
lexical_words_of lex_reasons.WordTooLong = codes "comment word is too long"
lexical_words_of lex_reasons.LoneDollar = codes "dollar sign without a number"
lexical_words_of lex_reasons.GlyphRange = codes "glyph is above 255"
lexical_words_of lex_reasons.BadSuffix = codes "unknown move suffix"
lexical_words_of lex_reasons.BraceInLineComment = codes "closing brace in a line comment"
lexical_words_of lex_reasons.UnclosedString = codes "string is not closed"
lexical_words_of lex_reasons.UnclosedComment = codes "comment is not closed"

-- the words of each reason
abbrev pub words_of : Reason → List ℕ
words_of (Lexical r) = lexical_words_of r
words_of ExpectedName = codes "tag name expected"
words_of BadTagName = codes "bad tag name"
words_of DuplicateTag = codes "tag is given twice"
words_of TooManyTags = codes "too many tags"
words_of ExpectedValue = codes "tag value expected"
words_of BadResult = codes "bad result value"
words_of (BadFen field) = codes "bad FEN, field "
words_of TagLineTooLong = codes "tag line is too long"
words_of ExpectedBracket = codes "closing bracket expected"
words_of SetUpWithoutFen = codes "SetUp 1 without a FEN tag"
words_of ReducedFen = codes "FEN tag in reduced mode"
words_of TagInMovetext = codes "tag in movetext"
words_of NotAMove = codes "not a move"
words_of IllegalMove = codes "move is not legal"
words_of AmbiguousMove = codes "move is ambiguous"
words_of MoveLimit = codes "move number limit"
words_of NoMoveBefore = codes "variation without a move before it"
words_of TooDeep = codes "variations are too deep"
words_of UnmatchedClose = codes "closing parenthesis without an open one"
words_of MarkerInVariation = codes "result inside a variation"
words_of ResultDiffers = codes "result differs from the Result tag"
words_of UnexpectedEnd = codes "unexpected end of input"
words_of ReadFault = codes "input cannot be read"
words_of WriteFault = codes "output cannot be written"
words_of InputTooLong = codes "input is too long"
words_of Changed = codes "second reading differs"

-- the number of the field that makes a value no FEN
abbrev pub words_of_field : Reason → List ℕ
words_of_field (BadFen field) = decimal field
words_of_field _ = []

-- `byte N: ` and the words
abbrev pub line_of : Fault → List ℕ
line_of f = codes "byte " ++ decimal f.at ++ codes ": " ++ words_of f.reason ++ words_of_field f.reason
