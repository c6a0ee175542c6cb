-- **Bookkeeping**: the sets of bytes, by one table.
use Rattle.std.specs.Prelude.{ℕ, Bool}
use Rattle.pgn_lexer.specs.declared.class.Set.{Set}
use Rattle.pgn_lexer.specs.declared.class.Set.TheVariants as sets
use Rattle.pgn_lexer.specs.Bytes.{continues_symbol, continues_word, is_blank, is_digit, is_line_end, is_space, is_suffix, starts_symbol}
use Rattle.pgn_lexer.specs.Lexes.{is_plain}

-- a bit for each set of bytes, but for white space, which has two
abbrev pub bits_of : Set → ℕ
bits_of sets.SymbolStart = 1
bits_of sets.Symbol = 2
bits_of sets.Digit = 4
bits_of sets.Suffix = 8
bits_of sets.Data = 16
bits_of sets.Word = 32
bits_of sets.Blank = 64
bits_of sets.LineEnd = 128
bits_of sets.Space = 192

abbrev pub is_in : Set → ℕ → Bool
is_in sets.SymbolStart b = starts_symbol b
is_in sets.Symbol b = continues_symbol b
is_in sets.Digit b = is_digit b
is_in sets.Suffix b = is_suffix b
is_in sets.Data b = is_plain b
is_in sets.Word b = continues_word b
is_in sets.Blank b = is_blank b
is_in sets.LineEnd b = is_line_end b
is_in sets.Space b = is_space b
