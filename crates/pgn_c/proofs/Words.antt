-- The words that proofs of this crate name, under one path.
pub use Rattle.pgn_c.specs.NextGame.{AreKnown, ConvertsNext, IsGame, NextOf, HasGameByMarker, fault_result, game_result, nothing, profile_counting, profile_taking, status_for, text_from, ReadsNext, in_first_column, marker_number, ReadsTags, WritesSection, WritesTags, section_of, section_full}
pub use Rattle.pgn_c.specs.NextGameSteps.{Finds, Holds, ReadsTo}
pub use Rattle.pgn_c.specs.Results.{IsFilled, padded, profile_in, result_of, status_of}
pub use Rattle.pgn_c.specs.TagAt.{BeginsWithTag, TagResult, no_tag}
pub use Rattle.pgn_c.specs.TagScan.{length_to_quote, name_length, one_more, pair_behind_bracket, text_behind, value_length}
unfoldable pub use Rattle.pgn_c.specs.TagScan.{first_pair}
pub use Rattle.pgn_c.specs.declared.game_result.PgnGame.{PgnGame}
pub use Rattle.pgn_c.specs.declared.tag.PgnTag.{PgnTag}
pub use Rattle.pgn_game.specs.games.FaultTable.{in_name, marker_of, refusal}
pub use Rattle.pgn_game.specs.laws.GamesRestart.{FinishesGame, games_read}
pub use Rattle.pgn_game.specs.games.Markers.{marker_text}
pub use Rattle.pgn_game.specs.games.Profile.{Profile}
pub use Rattle.pgn_game.specs.games.Progress.{Read, due, output, read, Next, Progress, no_progress, progress_with, progress_after, read_from}
pub use Rattle.pgn_game.specs.export.Text.{game_text, text_of}
pub use Rattle.pgn_game.specs.declared.marker.Marker.{Marker}
pub use Rattle.pgn_game.specs.declared.marker.Marker.TheVariants.{BlackWins, Draw, Unknown, WhiteWins}
pub use Rattle.pgn_game.specs.declared.mode.Mode.{Mode}
pub use Rattle.pgn_game.specs.declared.reason.Fault.{Fault}
pub use Rattle.pgn_game.specs.declared.reason.Reason.{Reason}
pub use Rattle.pgn_game.specs.declared.reason.Reason.TheVariants.{InputTooLong, WriteFault}
pub use Rattle.pgn_layout.specs.Device.{Device, device, nowhere, Writes}
pub use Rattle.pgn_lexer.specs.Tokens.{EndsAt, Kind, Token}
pub use Rattle.pgn_lexer.specs.TokensOf.{tokens_of, Within, after_brace, after_class, after_first, begins_class, begins_first, after_line, after_run, begins, begins_after, begins_brace, begins_line, next, onto, tokens_from, brace, brace_word, line, line_word, column, outside, in_symbol, in_glyph, in_suffix, in_escape_line, quotes, backslash}
pub use Rattle.std.proofs.Common.{Bool, Err, IsTrue, List, None, Ok, OnOk, Option, Result, Some, [], ap, append-nil, append_assoc, ap₂, arith, bytes_eq, codes, drop, false, inl, inr, length, length-append, map, min, refl, replicate, subst, suc, sym, take, true, zero, ℕ, ◌&&◌, ◌++◌, ◌+◌, ◌-◌, ◌<◌, ◌^◌, ◌||◌, ◌∙◌, ◌∷◌, ◌≡◌, ◌≢◌, ◌≤◌, ◌⊎◌, if◌then◌else◌, rules, length-take, cond, get_or, not}
pub use Rattle.std.proofs.Math.Seq.{length_paste_head, take-append-add}
pub use Rattle.std.proofs.lemmas.List.{drop-drop, drop-replicate, drop_at, length-drop, length-take-le, take-append-drop, take_all, take_at, take_rest, drop_all, drop_more, length-replicate}
pub use Rattle.std.proofs.lemmas.Slice.Eq.{bytes_eq-Decides, strip_prefix_is}
pub use Rattle.pgn_c.specs.ItemLines.{are_lines, ends_line, first_game, first_line, given_text, has_marker, texts_behind, field, move_line, GameEndsAt, WritesItems, all_result, game_items, plain_result, IsBegun, IsLeft, counted}
pub use Rattle.pgn_c.specs.ItemSteps.{NoneEnds, code_ends, code_move, front_text, is_marker, GivenSoFar, LinesSoFar, PutsItem, PutsText, passed_one, put_one, WritesSoFar}
pub use Rattle.pgn_c.specs.MoveNumberSteps.{depth_after, with_other, numbered_by, plies_after, with_period, with_symbol, wrong_at_period, wrong_of, wrong_in, has_brace, with_ply}
pub use Rattle.pgn_c.specs.MoveNumbers.{wrong_number, AreAccepted, Mark, digits_with, main_line, mark_of_period, mark_of_symbol, marks_behind, number_in, wrong_behind, one_digit_more}
pub use Rattle.pgn_c.specs.NextSection.{flag, game_of, is_set, place_if, struct_of, FindsSection}
pub use Rattle.pgn_c.specs.UnusualParts.{begins_unusual, skipped, to_brace, to_line_end, to_quote, belonging, is_unusual, unusual_behind, unusual_letter, unusual_number, unusual_other, begins_glyph}
pub use Rattle.pgn_c.specs.declared.items.Lines.{Lines}
pub use Rattle.pgn_c.specs.declared.items.MoveFields.{MoveFields}
pub use Rattle.pgn_c.specs.declared.items.PgnItems.{PgnItems}
pub use Rattle.pgn_game.proofs.stepping.BytesWithinLimit.{shown_begins}
pub use Rattle.pgn_game.specs.declared.mode.Mode.TheVariants.{Full}
pub use Rattle.pgn_game.specs.games.Game.{Game}
pub use Rattle.pgn_game.specs.laws.MissingResults.{IsReadAlike, MissingResults, rejects_marker, all_end_with}
pub use Rattle.pgn_game.specs.public.Conversion.{AfterSlice, FailsOn}
pub use Rattle.pgn_game.specs.public.ConverterCalls.{AreShown, NoWriteFails, StopsWriting, CountsFault, CountsReason, Converter, Ends, finished_game_of, IsLast, Stands, Stops, refused, unwritten, FedAll, FedGame, FedToFault, within_limit, StopsIn, at_token, too_long, Finishes, FinishesToFault, games_before, position_at_stop, refused_position, reported_position, finished_game_section}
pub use Rattle.pgn_game.specs.public.Given.{Given, item, marker, shown, tags, Shown, shown_with}
pub use Rattle.pgn_game.specs.public.ItemsCalls.{Current, IsBehindTags, IsHeld, IsShown, given_as, given_if, given_next, position_before_move, shown_move, shown_position, shown_san, shown_uci, shown_word, GivesItem, Items, ItemsRead, has_read_marker, items_ahead}
pub use Rattle.pgn_game.specs.public.LineOfPlay.{Line, Ply, behind_ply, line_ahead}
pub use Rattle.pgn_lexer.specs.Bytes.{continues_symbol, is_space, is_blank, is_control, starts_symbol, is_digit, is_letter, is_line_end, is_suffix}
pub use Rattle.pgn_lexer.specs.WhiteSpace.{white_space}
pub use Rattle.pgn_sections.specs.declared.bad_game.BadGame.{BadGame}
pub use Rattle.std.proofs.lemmas.Bool.{cases_Bool, eqb-true, or_cases, true≢false, true_from_ne_false, and_parts, and_from, eq-eqb, leb-true, le-leb}
pub use Rattle.std.proofs.lemmas.Grind.{common_steps}
pub use Rattle.std.proofs.lemmas.List.Sums.{fold-append, prefix_len-le-length, take_while-cons}
pub use Rattle.std.proofs.lemmas.Option.{none-some}
pub use Rattle.std.specs.List.{prefix_len, list_all}
pub use Rattle.std.specs.Prelude.{fold, IsSomeAnd, decimal, option_map, is_some, take_while, ◌==◌, nat_le, MatchOption, IfSome, unwrap_or}
