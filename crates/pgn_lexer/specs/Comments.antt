-- **Bookkeeping**: comments in braces, and those to the end of a line (PGN 5).
use Rattle.pgn_lexer.specs.declared.partial_token.CommentEnd.{CommentEnd}
use Rattle.pgn_lexer.specs.declared.partial_token.CommentEnd.TheVariants.{Brace, LineEnd}
use Rattle.pgn_lexer.specs.TokensOf.{Within, brace, brace_word, line, line_word}

-- between its words
abbrev pub between : CommentEnd → Within
between Brace = brace
between LineEnd = line

abbrev pub in_word : CommentEnd → Within
in_word Brace = brace_word
in_word LineEnd = line_word
