-- The words that most proofs name, under one path: tokens, positions, formats, stages, reasons,
-- profiles, tag pairs and games.
pub use Rattle.pgn_lexer.specs.Tokens.{Kind, Token, left_paren, right_paren, EndsAt, asterisk, left_bracket, right_bracket, str, symbol}
pub use Rattle.chess_rules.specs.declared.position.Parts.{Parts}
pub use Rattle.chess_rules.specs.declared.position.Played.{Played}
pub use Rattle.chess_text.specs.declared.resolution.SanFault.{SanFault}
pub use Rattle.pgn_game.specs.declared.mode.Mode.{Mode}
pub use Rattle.pgn_game.specs.declared.mode.Mode.TheVariants.{Full, Reduced}
pub use Rattle.pgn_game.specs.declared.stage.Stage.{Stage}
pub use Rattle.pgn_game.specs.declared.stage.Stage.TheVariants.{Between, AfterLeftBracket, AfterName, AfterValue, AfterTags, InMovetext}
pub use Rattle.pgn_game.specs.declared.reason.Fault.{Fault}
pub use Rattle.pgn_game.specs.declared.reason.Reason.{Reason}
pub use Rattle.pgn_game.specs.declared.reason.Reason.TheVariants.{Lexical, ExpectedName, BadTagName, DuplicateTag, TooManyTags, ExpectedValue, BadResult, BadFen, TagLineTooLong, ExpectedBracket, SetUpWithoutFen, ReducedFen, TagInMovetext, NotAMove, IllegalMove, AmbiguousMove, MoveLimit, NoMoveBefore, TooDeep, UnmatchedClose, MarkerInVariation, ResultDiffers, UnexpectedEnd, ReadFault, WriteFault, InputTooLong, Changed}
pub use Rattle.pgn_game.specs.games.Profile.{Profile, Missing, counts_as, takes_the_marker, known_result, counting, with_missing}
pub use Rattle.pgn_game.specs.games.Pairs.{Pair, value_of, has_pair, comes_before, insert_pair}
pub use Rattle.pgn_game.specs.games.Game.{Item, Game, Part, no_part, close_variation, open_variation}
pub use Rattle.std.proofs.Common.{All, Bool, Bor, Err, IfOk, IfSome, IsErr, IsFalse, IsSome, IsSomeAnd, IsTrue, List, None, Ok, OnOk, Option, Result, Some, [], add-one, ap, append-nil, append_assoc, arith, bytes_eq, codes, cond, decimal, drop, eq-eqb, false, filter, fold, get_or, if◌then◌else◌, inl, inr, insert, is_none, is_ok, is_some, le-ltb, le_refl, length, length-append, lit<, lit≤, lt-ltb, map, max, nat_le, nat_lt, not, option_map, refl, rules, set, slice_get, subst, suc, sum, sym, take, true, true≢false, unwrap_or, zero, ℕ, ◌&&◌, ◌++◌, ◌+◌, ◌-◌, ◌<◌, ◌==◌, ◌^◌, ◌||◌, ◌↔◌, ◌∙◌, ◌∷◌, ◌≡◌, ◌≤◌, ◌⊎◌, drop_of_length-le, le_trans, length-drop, length-take, ◌*◌}
pub use Rattle.std.proofs.ByRecursion.{All-append, All-map, All-weaker, all_kept_by, All-get_or}
pub use Rattle.std.proofs.KnownBytes.{Appends-nil, Appends-trans, Consumes-kept, Consumes-nil, Consumes-trans}
pub use Rattle.std.proofs.Math.Seq.{drop-append-add, drop-append_seam, drop-cons, drop-length, take-append-add, take-append_seam, take-suc, take-add, get_or-append_seam, set-append_seam, take-nil}
pub use Rattle.std.proofs.lemmas.Bool.{and_from, and_parts, and_right, cases_Bool, cases_order, eqb-true, false≢true, le-leb, leb-false, leb-true, not-true, lt-leb, ltb-false, ltb-true, ne_eqb, not-false, or_cases, or_from, or_parts, or_right, true_from_ne_false}
pub use Rattle.std.proofs.lemmas.Bool.Decides.{eqb_tells, nat_tests}
pub use Rattle.std.proofs.lemmas.List.{drop_all, drop_at, length-map, length-set, length-take-le, take-append-drop, take-append-le, take_all, take_at, append_cancel_left, drop-map, get_or-drop, get_or-set_other, get_or-set_same, get_or_append_left, get_or_read, length_push, take-map, take_more_set, drop-append-le, drop-drop, drop-take, map-append, take-take, take_rest}
pub use Rattle.std.proofs.lemmas.List.Elements.{All-cons, All-head, All-nil, All-tail, filter-append}
pub use Rattle.std.proofs.lemmas.List.Folds.{list_all-append, list_any-append}
pub use Rattle.std.proofs.lemmas.List.Sums.{count_by-le-length, fold-append, length-filter, sum-map, sum_by-append, sum_by-cons}
pub use Rattle.std.proofs.lemmas.Option.{get_or_from_slice_get, none-some, same_Some, slice_get_within, IfSome_then}
pub use Rattle.std.proofs.lemmas.Slice.Eq.{bytes_eq-Decides}
pub use Rattle.std.specs.Io.KnownBytes.{Appends, Consumes, IsAtEnd}
pub use Rattle.std.specs.List.{AllByRecursion, list_all, list_any, refill}
pub use Rattle.std.specs.Option.{ok_or, option_copied, option_to_list}
pub use Rattle.chess_rules.specs.Laws.{LeavesPosition, FewCandidates}
pub use Rattle.chess_rules.specs.Legal.{is_legal, legal}
pub use Rattle.chess_rules.specs.Position.{initial, is_position}
pub use Rattle.chess_rules.specs.declared.position.Move.{Move}
pub use Rattle.chess_text.specs.Laws.{ReadingIsSpelling, TheOneMoveIsRead, ReadingAFormIsSpelling}
pub use Rattle.chess_text.specs.WrittenMove.{IsMoveSymbol, WrittenMoveIsRead, WrittenMoveIsSymbol, begins_with_letter, is_move_byte}
pub use Rattle.chess_text.specs.declared.fen.FenFault.{FenFault}
pub use Rattle.chess_text.specs.declared.resolution.SanFault.TheVariants.{Ambiguous, NoMove}
pub use Rattle.pgn_game.specs.games.Chess.{is_black_to_move, text_of_move}
unfoldable pub use Rattle.pgn_game.specs.games.Chess.{first_position, move_of, play, position_of, text_of_move}
pub use Rattle.pgn_game.specs.games.FaultTable.{Row, fen_fault_field, fen_field, fen_field_of, first_holding, has_other_result, in_name, is_at, is_at_limit, is_comment, is_end, is_many_moves, is_no_form, is_no_move, is_number, is_one_move, is_outside_tag_pairs, is_reduced, is_result, is_score, lacks_fen, levels_of_part, marker_of, position_in, result_for, row, rows, position_if_move}
unfoldable pub use Rattle.pgn_game.specs.games.FaultTable.{refusal}
pub use Rattle.pgn_game.specs.laws.Filled.{exported_pairs, filled}
pub use Rattle.pgn_game.specs.laws.FixedPoint.{AreExportable, ExportIsKept, ExportIsKeptOfSource, ExportingTwice, FewPairsHaveRoom, FixedPoint, IsExportable, IsWrittenAgain, SameOutput, SameText, SliceIsKept, SourceIsKept, TagSectionFits, TextSpells, counted, games_in}
pub use Rattle.pgn_game.specs.steps.ItemResult.{Adds, Annotates, ItemCall, LeadsLevels, Plays, PutsAnnotation, PutsMarker, PutsMove, PutsTokens, TriesItem, after_move_if, ending_if, line_behind, token_if, writes_annotations, item_text, plies_in, tokens_if, LeavesSink}
pub use Rattle.pgn_game.specs.games.Levels.{Level, Levels, back_to, depth, first_level, here, last_position, levels_after, levels_of, main_moves, outermost, plies_of, replayed, start_of, without_last}
pub use Rattle.pgn_game.specs.games.Markers.{marker_text, missing_of}
pub use Rattle.pgn_game.specs.public.Written.{bytes_seen, failures_seen, is_nothing, mode_of_written, mode_unless, seen}
pub use Rattle.pgn_game.specs.steps.Movetext.{HoldsLineOf, ClosesLevel, FitsLevelStore, HoldsItems, Movetext, StoredLevel, StoredLevels, before_last, code_levels, ends_in_move, inside, level_at, level_of, movetext_after_fen, movetext_from, nearest_first, places_of, stored_level, stored_levels}
pub use Rattle.pgn_game.specs.games.Progress.{Next, Progress, Read, at_stage, going, in_text, items_of, move_item, next, next_in, no_progress, output, progress_after, progress_with, read, read_from, refused, totals, verdict, whole, due, verdict_of, written as written_so_far, position_at_fault}
pub use Rattle.pgn_game.specs.steps.TokenTaken.{BeginsText, Goes, Keeps, PutResult, TakesOutside, TakesToken, at_game_start, gain_to, section_due, section_due_of, CountsMove, EntersMovetext, EntersPart, Finds, FinishesNone, GoesTo, Takes, TakesEntry, TakesUnwritten, counting_probes, unused, TakesEntryPlaced, TakesMarker, continued}
pub use Rattle.pgn_game.specs.steps.GameState.{KeepsSilence, Writing, mode_written, silenced, sink_of, with_announced, Accepted, More, Finished, Agrees, AreSound, CountsWrites, FinishesAtMarker, HoldsPairs, HoldsText, IsBehind, GameState, as_written, is_outside_the_table, known_of, announced_result, plies_of_finished_games, Answers, IsKnown, IsStopped, Leads, plies_added, GameCall}
pub use Rattle.pgn_game.specs.steps.SectionLines.{other_line, roster_line, text_by}
pub use Rattle.pgn_game.specs.games.Spells.{AreDistinct, AreDropped, BeginsBare, IsPair, IsResult, IsSetUp, KeepsTags, Names, Spells, SpellsGame, SpellsGames, SpellsPair, SpellsPairs, SpellsText, StandsFor, by_name, comment_close, comment_open, glyph, level_after_move, move, new_level, next_game, next_pair, no_game, no_more, no_pair, number, pair, period, token, variation, word}
pub use Rattle.pgn_game.specs.steps.StoredPairs.{AllAfter, AllBelow, AreInOrder, FitsPairStore, HasBegun, InOrder, TagPairs, index_of, pair_at, pairs_seen, placed}
pub use Rattle.pgn_game.specs.export.TagSection.{exported, in_roster, other_pairs, roster_pairs, tag_lines, tag_section, with_set_up}
unfoldable pub use Rattle.pgn_game.specs.export.TagSection.{roster}
pub use Rattle.pgn_game.specs.export.Text.{Placed, full_text, game_text, has_move, is_main_move, is_move, number_before, placed_from, tokens_at, tokens_from, tokens_out, torn, torn_at, torn_for, written_items, text_of as text_of_games}
pub use Rattle.pgn_game.specs.steps.TokenInMovetext.{IsEntry, IsOpen, fen_position, game_of, has_whole_pairs, may_have_movetext, or_else, text_refusal, with_items}
pub use Rattle.pgn_game.specs.declared.marker.Marker.{Marker}
pub use Rattle.pgn_game.specs.declared.marker.Marker.TheVariants.{BlackWins, Draw, Unknown, WhiteWins}
pub use Rattle.pgn_layout.specs.Device.{AppendsFront, Counts, Device, Writes, WritesText, device, one_more, FailsOnce, IsStill, nowhere}
pub use Rattle.pgn_layout.specs.Layout.{EndGame, Put, ended, laid_from, line_at, line_put, text_at, text_put}
pub use Rattle.pgn_layout.specs.Lines.{IsToken, full_lines, has_room, last_line, lines_from, lines_of, text_of}
pub use Rattle.pgn_layout.specs.TagLine.{escaped, tag_line}
pub use Rattle.pgn_lexer.specs.Bytes.{continues_symbol, is_space, starts_symbol}
pub use Rattle.pgn_lexer.specs.Laws.{IsLast, KindsAreReadBack, NumbersAreSymbols, RisesTo, TokensAreSound, TokensRise, TextsRestart, CanBeMarker, DecidedIsPrefix, BeginsWithToken, SymbolsStandInText}
pub use Rattle.pgn_lexer.specs.Scanned.{kind_of, fault, more}
pub use Rattle.pgn_lexer.specs.Sound.{CommentsClose, IsData, IsSoundKind, IsSymbol, begins_with, IsWord}
pub use Rattle.pgn_lexer.specs.TokensOf.{tokens_of, onto, Within, begins, begins_after, begins_class, begins_first, column}
pub use Rattle.pgn_lexer.specs.Written.{AreEnded, IsEndedBy, IsPiece, IsReadable, Piece, kinds_in, text_of_pieces, written}
pub use Rattle.pgn_lexer.specs.declared.token.TokenKind.{TokenKind}
pub use Rattle.chess_text.specs.MoveOfForm.{form_pairs, move_of_form, with_next}
pub use Rattle.chess_text.specs.declared.form.Form.{Form}
pub use Rattle.pgn_game.specs.public.FoundMove.{found_in}
pub use Rattle.pgn_game.specs.laws.Laws.{IsPrefix, DueGrows}
unfoldable pub use Rattle.pgn_game.specs.public.Tried.{Costs}
pub use Rattle.std.proofs.lemmas.Result.{err_from_is_err_and}
pub use Rattle.pgn_game.specs.public.Tried.{AddsPairs, CostsAnswer, CostsForm, Costs}
pub use Rattle.pgn_game.specs.public.ConverterCalls.{NoWriteFails, StillStands, writing_nothing, AreNext, within_limit, Converter, CountsFault, CountsMissingAs, CountsReason, FedAll, FedFault, FedGame, FedToFault, FedWhole, FinishedGame, HasRead, IsSound, ReadsUpTo, Stands, StopsIn, at_token, counting_missing_as, finished_game_of, game_in_reader_if, play_moves, profile_of, too_long, AfterFinish, Finishes, FinishesToFault, game_in_reader, Stops, unwritten, StopsWriting, games_before, position_at_stop, ProbesAtStop, has_played_move, reported_position, refused as refused_stop, IsLast as IsLastGame, AreShown, Feeds, IsRefused, ReadsByMarker, reading_by_marker, so_far}
pub use Rattle.pgn_lexer.specs.Standing.{Standing, coming, waiting}
pub use Rattle.pgn_lexer.specs.Stands.{AfterScan, FinishGivesToken, Follows, HasLeft, IsDecided, IsNext, StandsAfter, first, still, Scans}
pub use Rattle.pgn_game.specs.steps.Readings.{AfterGameEnd, AllRead, BeginsAt, BothSoFar, ComesNext, FirstFails, GameRead, GameWritten, HasGiven, HasGivenIn, HasMarkers, HasMatched, ReadFails, Reading, ReadingStops, ReadsAllOf, ReadsToGameEnd, SecondFails, SourceGives, StandsBetween, Stores, WhyFirst, WhySecond, WritesGame, as_changed, changed_reason, known_by, model_marker, no_sink}
pub use Rattle.pgn_game.specs.public.MostTried.{CostsIf, CostsToAdd, CostsToFind, CostsToWrite, MostFrom, MostTried, Raises, Tries, CostsUnlessRefused, is_sought, TriesUnwritten, added, is_written, none}
pub use Rattle.pgn_game.specs.public.GamesCalls.{ahead_of, AfterNext, Games, HasReadAll, HaveRead, NextFault, NextGame, NextStops, NoGame, ReadSoFar, ReadsNext, ReadsNoGame, games_of, most_left}
pub use Rattle.pgn_game.specs.export.Due.{Gains, gain, text_next}
pub use Rattle.pgn_game.specs.steps.ConverterSteps.{AllSoFar, FaultAtEnd, FeedsAllSoFar, GainsAs, IsBeforePiece, IsBeforeToken, IsGoing, OneGame, SameGames, announcing, due_as, part_after, letting_missing_result_take_marker}
pub use Rattle.pgn_game.specs.public.Checked.{Comparison, PlacedMarker, checked_profile, compared, compared_from, earlier_fault, is_changed, is_other, marker_at, markers, markers_after, markers_from, torn_before, with_marker, written_by}
pub use Rattle.pgn_lexer.specs.Decided.{decided}
pub use Rattle.pgn_game.specs.public.Conversion.{AfterConversion, AfterEnd, AfterSlice, CountsDevices, Fails, FailsOn, IsConverted, IsTotalled, MostProbes, CountsResult, Decides, IsTokenPrefix, ReadsNoMore, verdict_in}
pub use Rattle.pgn_game.specs.steps.Flow.{StandsInText}
pub use Rattle.pgn_game.specs.steps.GamesSteps.{FillResult, MoreResult}
pub use Rattle.pgn_game.specs.laws.GamesRestart.{FinishesGame, GamesRestart, counting_also, games_read}
pub use Rattle.pgn_game.specs.declared.conversion.Totals.{Totals}
pub use Rattle.pgn_lexer.specs.declared.token.LexFault.{LexFault}
pub use Rattle.pgn_game.specs.laws.GameEnds.{EndsByMarker, GamesEndByMarker, LastGame, TextsEndBehindMarker, TextsEndBetweenGames}
pub use Rattle.pgn_game.specs.declared.event.Event.{Event}
pub use Rattle.pgn_game.specs.declared.writer.Writer.{Writer}
pub use Rattle.pgn_game.specs.steps.Judged.{EndsAtMarker, IsAnnotation, IsFound, IsPlayed, IsWritable, IsOutside, JudgesBefore, JudgesInPair, JudgesOutside, Means, MovesText, Refuses, RefusesMarker, TakesMeant, WritesMove, after_move_at, game_at, game_by, is_begun, items_meant, pairs_meant, section_unless, writing_of}
pub use Rattle.pgn_lexer.specs.PartialToken.{tokens_to_come_in}
pub use Rattle.pgn_lexer.specs.declared.token.LexReason.{LexReason}
pub use Rattle.pgn_lexer.specs.declared.token.LexReason.TheVariants.{SymbolTooLong, WordTooLong, GlyphRange}
pub use Rattle.pgn_lexer.specs.Spelling.{gives, stops, Found}
pub use Rattle.chess_text.specs.Form.{form_of}
pub use Rattle.chess_text.specs.San.{MarkPairs, disambiguation_pairs, san}
pub use Rattle.pgn_game.specs.public.CheckedConversion.{AreConverted, AreRefused, AreTotalled, CountsThree, FirstStops, HasTaken, MatchesAllMarkers, MostOfBoth, SecondStops, TwoReadingsConvert, TwoReadingsFail, WriteStops}
pub use Rattle.pgn_game.specs.public.LineOfPlay.{Ahead, NextMove, NextPly, words_behind}
pub use Rattle.pgn_game.specs.declared.event.Event.TheVariants.{Close, CommentClose, CommentOpen, Open}
pub use Rattle.pgn_game.specs.declared.mode.Written.{Written}
pub use Rattle.pgn_game.specs.laws.EqualReadings.{AreWritten, AreWrittenWithin, EqualReadings, EqualTotals, InterruptedReadings}
pub use Rattle.pgn_game.specs.laws.MissingResults.{IsReadAlike, MissingResults, all_end_with, is_about_result, rejects_marker}
pub use Rattle.pgn_game.specs.laws.MovesAreLegal.{MovesAreLegal, is_legal_at, plays_legally}
pub use Rattle.pgn_game.specs.steps.LineWords.{bytes_between, moves_from, word_in, words_from}
pub use Rattle.pgn_layout.specs.Laws.{LinesOfKeepTokens, TokensDetermineLines}
pub use Rattle.pgn_lexer.specs.WholeTokens.{Passes, ReadsBehind, is_passed, over_space, over_token}
pub use Rattle.pgn_lexer.specs.declared.token.TokenKind.TheVariants.{Str}
pub use Rattle.std.proofs.Math.Nat.{le-max_left, le-max_right}
pub use Rattle.std.specs.Borrow.{RattleType}
pub use Rattle.std.specs.Mem.{FitsInMemory}
pub use Rattle.std.specs.Result.{IsOk, IsErrAnd}
pub use Rattle.std.proofs.lemmas.Grind.{common_steps}
