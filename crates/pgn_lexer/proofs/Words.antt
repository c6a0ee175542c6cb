-- The words that proofs of this crate name, under one path.
pub use Rattle.std.proofs.Common.{Bool, List, [], add-one, ap, append-nil, append_assoc, arith, cond, drop, eq-eqb, false, get_or, inl, inr, length, length-append, length-take-le, refl, subst, suc, sym, take, take-append-drop, true, zero, ℕ, ◌%◌, ◌*◌, ◌++◌, ◌+◌, ◌-◌, ◌/◌, ◌<◌, ◌^◌, ◌∙◌, ◌∷◌, ◌≡◌, ◌≤◌, rules}
pub use Rattle.std.proofs.Math.Seq.{drop-append_seam, drop-cons, take-suc}
pub use Rattle.std.proofs.lemmas.Bool.{and_parts, cases_Bool, cases_lt, eqb-true, false≢true, leb-false, leb-true, lt-ltb, ltb-false, ltb-true, true≢false, not-true, or_cases, or_left, or_right}
pub use Rattle.std.proofs.lemmas.List.{drop-drop, drop_at, length-replicate, length-set, take_all, take_more_set, get_or-drop, get_or-take, length-drop, take_rest}
pub use Rattle.std.proofs.lemmas.List.Sums.{fold-append, take_while-cons}
pub use Rattle.std.specs.Cmp.Derive.{both_true}
pub use Rattle.std.specs.List.{AllByRecursion, list_all}
pub use Rattle.std.specs.Prelude.{IfSome, None, Option, Some, bytes_eq, codes, decimal, filter, if◌then◌else◌, map, nat_le, nat_lt, not, replicate, IsFalse, IsTrue, take_while, ◌==◌, ◌||◌, ◌⊎◌}
pub use Rattle.pgn_lexer.specs.ByteResult.{AfterByte, IsAfterByte, after_backslash, after_byte_in, after_end_in, begin, begin_line, begin_outside, fails, grown, in_text, into, set_at, string, text_end}
unfoldable pub use Rattle.pgn_lexer.specs.ByteResult.{after_byte, after_end}
pub use Rattle.pgn_lexer.specs.Bytes.{continues_symbol, continues_word, is_blank, is_control, is_digit, is_letter, is_line_end, is_space, is_suffix, starts_symbol}
pub use Rattle.pgn_lexer.specs.Decided.{common, decided, known, same_kind, same_token}
pub use Rattle.pgn_lexer.specs.Laws.{BeginsWithToken, CanBeMarker, DecidedIsPrefix, IsLast, IsPrefix, KindsAreReadBack, KnownIsPrefix, LexesOnce, NumbersAreSymbols, PiecesAreReadBack, RisesTo, SymbolsStandInText, TextsRestart, TokensAreSound, TokensRise}
pub use Rattle.pgn_lexer.specs.Lexes.{Cuts, Data, IsAtLineEnd, IsRun, IsSingle, IsSuffix, Lexes, Refuses, SpellsToken, StopsAt, Where, escaped, is_barred, is_escaped, is_plain, is_stray, lone, no_data, plain}
pub use Rattle.pgn_lexer.specs.PartialToken.{HasNotFailed, IsSound, PartialToken, before_last, fault_met, kind_in, pending, pending_in, refusal, tokens_to_come_in, token_of, tokens_to_come, with_front}
pub use Rattle.pgn_lexer.specs.WholeTokens.{Passes, ReadsBehind, none, over_space, over_token, is_passed}
pub use Rattle.pgn_lexer.specs.RunResult.{EndsBeforeByte, EndsWithByte, IsOutside, Ran, RunsOut, RunsToFault, RunsToToken, StoodAt}
pub use Rattle.pgn_lexer.specs.Runs.{BeginsUnpassed, IsNumberIn, IsRunIn, IsText, standing_at, IsBetween, IsWhole}
pub use Rattle.pgn_lexer.specs.Sets.{bits_of, is_in}
pub use Rattle.pgn_lexer.specs.Begins.{Fits, begins_in_comment, begins_outside}
pub use Rattle.pgn_lexer.specs.Comments.{between, in_word}
pub use Rattle.pgn_lexer.specs.Texts.{BeginsWithEscape, bytes_of, found_of, glyph_of, kind_of_sign, kind_of_text, longer_number, longest_of, mode_behind, too_long_of, within_behind, within_of}
pub use Rattle.pgn_lexer.specs.Scanned.{Scanned, fault, more, kind_of}
pub use Rattle.pgn_lexer.specs.Sound.{AreSoundTokens, CommentsClose, IsData, IsSoundKind, IsSymbol, IsWord}
pub use Rattle.pgn_lexer.specs.Spelling.{Found, Reading, broken, class, closed, comment_class, datum, gives, glyph_at, kind_of_single, number_from, number_of, numbered_at, reading, stops, string_at, string_class, suffix_at, symbol_at, word_at}
pub use Rattle.pgn_lexer.specs.Standing.{Standing, fault_in_mode, fault_of}
pub use Rattle.pgn_lexer.specs.Stands.{AfterScan, EndsNoSooner, Finishes, Follows, HasLeft, IsNext, Scans, StandsAfter, first, still}
pub use Rattle.pgn_lexer.specs.Tokens.{EndsAt, HasLength, Kind, Token, asterisk, comment_close, comment_open, end, glyph, is_run, left_bracket, left_paren, period, refused, right_bracket, right_paren, str, symbol, word}
pub use Rattle.pgn_lexer.specs.TokensOf.{Within, after_brace, after_class, after_first, after_line, after_run, at_end, backslash, begins, begins_after, begins_brace, begins_class, begins_first, begins_line, column, has_mark, in_escape_line, in_glyph, in_suffix, in_symbol, line, next, onto, outside, quotes, tokens_from, tokens_of}
pub use Rattle.pgn_lexer.specs.Written.{AreEnded, IsEndedBy, IsPiece, IsReadable, Piece, kinds_in, space, text_of_pieces, token, tokens_at, written}
pub use Rattle.pgn_lexer.specs.Class.{Class, Single, Alone, Dollar, LineEnd, OpenBrace, Percent, Quote, Refused, Semicolon, Space, Suffix, SymbolStart}
pub use Rattle.pgn_lexer.specs.CommentClass.{CommentClass}
pub use Rattle.pgn_lexer.specs.declared.class.Set.{Set}
pub use Rattle.pgn_lexer.specs.StringClass.{StringClass}
pub use Rattle.pgn_lexer.specs.declared.partial_token.CommentEnd.{CommentEnd}
pub use Rattle.pgn_lexer.specs.declared.partial_token.LexMode.{LexMode}
pub use Rattle.pgn_lexer.specs.declared.partial_token.LexMode.TheVariants.{AfterBackslash, Failed, LineStart, Outside, Start, Glyph}
pub use Rattle.pgn_lexer.specs.declared.partial_token.ByteResult.{ByteResult}
pub use Rattle.pgn_lexer.specs.declared.partial_token.ByteResult.TheVariants.{Ends, EndsBefore, Fault, Used}
pub use Rattle.pgn_lexer.specs.declared.partial_token.Text.{Text}
pub use Rattle.pgn_lexer.specs.declared.partial_token.Sign.{Sign}
pub use Rattle.pgn_lexer.specs.declared.partial_token.TokenForm.{TokenForm}
pub use Rattle.pgn_lexer.specs.declared.partial_token.begins.Begins.{Begins}
pub use Rattle.pgn_lexer.specs.declared.token.LexFault.{LexFault}
pub use Rattle.pgn_lexer.specs.declared.token.LexReason.{LexReason}
pub use Rattle.pgn_lexer.specs.declared.token.LexReason.TheVariants.{BadSuffix, BraceInLineComment, ControlByte, GlyphRange, LoneDollar, Reserved, StrayByte, StringTooLong, SymbolTooLong, UnclosedComment, UnclosedString, WordTooLong}
pub use Rattle.std.proofs.lemmas.Grind.{common_steps}
