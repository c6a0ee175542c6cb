-- The words that proofs of this crate name, under one path.
pub use Rattle.std.proofs.Common.{Bool, IfSome, List, None, Option, Result, Some, [], ap, append-nil, append_assoc, arith, decimal, drop, false, inl, inr, is_some, length, length-append, length-take, map, refl, rules, subst, suc, sym, take, true, true≢false, unwrap_or, vec_capacity, vec_len, ℕ, ◌++◌, ◌+◌, ◌-◌, ◌<◌, ◌^◌, ◌∙◌, ◌∷◌, ◌≡◌, ◌≤◌, ◌⊎◌}
pub use Rattle.std.proofs.KnownBytes.{Appends-kept, Appends-nil, Appends-trans, Consumes-nil, Consumes-trans, Consumes-whole}
pub use Rattle.std.proofs.Math.Seq.{take-append-add, take-append_seam, take-length}
pub use Rattle.std.proofs.lemmas.Bool.{false≢true}
pub use Rattle.std.proofs.lemmas.List.{append_cancel_left, length-map, map-append, take-append-drop, take-append-le}
pub use Rattle.std.proofs.lemmas.Result.{err_from_is_err_and}
unfoldable pub use Rattle.std.specs.Fmt.{digits}
pub use Rattle.std.specs.Global.{Global}
pub use Rattle.std.specs.Io.KnownBytes.{Appends, Consumes, IsAtEnd, Keeps, WriteAppends, append_known}
pub use Rattle.std.specs.Prelude.{Err, IfOk, Ok, OnOk, String, codes, if◌then◌else◌, is_ok, option_map, string_bytes}
pub use Rattle.pgn_arguments.specs.declared.arguments.Task.TheVariants.{Export, Split}
pub use Rattle.pgn_game.specs.public.CheckedConversion.{AreConverted, CountsThree, FirstStops, HasTaken, OneFails, SecondStops, TwoReadingsConvert, TwoReadingsFail, WriteStops, first_too_long, first_unread, second_too_long, second_unread, unwritten}
pub use Rattle.pgn_game.specs.public.Conversion.{AfterConversion, CountsDevices, CountsResult, Decides, Fails, IsConverted, IsTokenPrefix}
pub use Rattle.pgn_game.specs.public.ConverterCalls.{AreNext, FinishedGame, HasRead, Stops, StopsWriting, games_before, profile_of, AreShown, IsRefused, within_limit}
pub use Rattle.pgn_game.specs.laws.EqualReadings.{EqualReadings, InterruptedReadings}
pub use Rattle.pgn_game.specs.games.FaultTable.{Row, first_holding, result_for, rows}
unfoldable pub use Rattle.pgn_game.specs.games.FaultTable.{refusal}
pub use Rattle.pgn_game.specs.games.Game.{Game, Part}
pub use Rattle.pgn_game.specs.public.GamesCalls.{Games, HaveRead, NextGame, NextStops, NoGame, ReadsNoGame, at_end, most_left, within, ReadsNext}
pub use Rattle.pgn_game.specs.games.Levels.{start_of}
pub use Rattle.pgn_game.specs.games.Profile.{Profile, takes_the_marker}
pub use Rattle.pgn_game.specs.games.Progress.{Progress, Read, Verdict, due, no_progress, output, progress_after, read, read_from, refused, totals, verdict, verdict_of, Counted}
pub use Rattle.pgn_game.specs.games.Reason.{line_of}
pub use Rattle.pgn_game.specs.export.TagSection.{exported, tag_section}
unfoldable pub use Rattle.pgn_game.specs.export.TagSection.{roster}
pub use Rattle.pgn_game.specs.export.Text.{game_text, text_of, tokens_out}
pub use Rattle.pgn_game.specs.declared.conversion.Totals.{Totals}
pub use Rattle.pgn_game.specs.declared.mode.Mode.{Mode}
pub use Rattle.pgn_game.specs.declared.mode.Mode.TheVariants.{Full, Reduced}
pub use Rattle.pgn_game.specs.declared.reason.Fault.{Fault}
pub use Rattle.pgn_game.specs.declared.reason.Reason.{Reason}
pub use Rattle.pgn_game.specs.declared.reason.Reason.TheVariants.{InputTooLong, ReadFault, UnexpectedEnd, UnmatchedClose, WriteFault}
pub use Rattle.pgn_layout.specs.Device.{AppendsFront, Counts, Device, IsStill, NoneUnflushed, Writes, device, one_more, nowhere}
pub use Rattle.pgn_lexer.specs.Decided.{decided}
pub use Rattle.pgn_lexer.specs.Tokens.{Kind, Token}
pub use Rattle.pgn_lexer.specs.TokensOf.{tokens_of}
pub use Rattle.pgn_tool.specs.CheckedRun.{AnswersSame, AnswersTwice, BlamesTwice, EndsTwice, Gives, RunsTwice, profile_twice}
pub use Rattle.pgn_tool.specs.Files.{FileStep, IsBegun, IsNew, added, bytes_in, closed, failures_in, file_steps, has_bytes, is_text, made, number_after, refusal_step, taken_by, whole_files}
pub use Rattle.pgn_tool.specs.ListLines.{CountsReadFault, IsListed, ListResult, ListStops, ListsNoMore, game_line, line_just_finished, lines_from, lines_of, list_profile, six_fields, too_long, unread}
unfoldable pub use Rattle.pgn_tool.specs.ListLines.{finished_game_line}
pub use Rattle.pgn_tool.specs.Machine.{Holding, IsOpened, Machine, Reading, holds, missing}
pub use Rattle.pgn_tool.specs.Program.{Carries, EndsUnopened, IsMissing, RunsAnswer, RunsWords, StartsFrom, by_fault, by_task, file_source, opened, opened_again, source_of, unopened, unopened_again}
pub use Rattle.pgn_tool.specs.SplitFiles.{CountsSource, CountsSplit, EndsSplit, GameSplit, IsOwn, LastFile, RunsSplit, SplitFiles, reported, settled}
pub use Rattle.pgn_tool.specs.SplitGames.{CutFile, CutsFile, IsSplit, IsSplitWhole, Logs, LogsCut, SplitResult, SplitStops, SplitsNoMore, StopsAt, files_of, texts_in, torn_file, torn_text}
pub use Rattle.pgn_tool.specs.BetweenGames.{ListedSoFar, SplitSoFar}
pub use Rattle.pgn_tool.specs.TaskRun.{Answers, Blames, Concludes, Ends, EndsList, FlushesLast, HasFailed, HasFront, IsCalm, IsSmooth, IsUntouched, Job, Runs, Tells, TellsVerdict, Works, WritesLast, checking, counting_line, exporting, line, listing, profile_for, status_of, text_for}
pub use Rattle.pgn_tool.specs.declared.game_sink.GameFile.{GameFile}
pub use Rattle.pgn_tool.specs.declared.game_sink.GameFile.TheVariants.{NotMade, Open}
pub use Rattle.pgn_tool.specs.declared.list.Stopped.{Stopped}
pub use Rattle.pgn_tool.specs.declared.list.Stopped.TheVariants.{Refused, Unwritten}
pub use Rattle.pgn_tool.specs.declared.machine.SystemFault.{SystemFault}
pub use Rattle.pgn_tool.specs.declared.split.Unsplit.{Unsplit}
pub use Rattle.pgn_tool.specs.declared.split.Unsplit.TheVariants.{NoMemory}
pub use Rattle.std.proofs.lemmas.Option.{IfSome_then, none-some}
pub use Rattle.pgn_tool.specs.declared.files.CreateFault.{CreateFault}
pub use Rattle.pgn_game.specs.public.Written.{seen}
pub use Rattle.pgn_game.specs.steps.GameState.{GameState}
pub use Rattle.std.proofs.lemmas.Grind.{common_steps}
