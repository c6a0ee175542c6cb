-- What most proofs name.
pub use Rattle.pgn_lexer.specs.Bytes.{is_space, is_line_end}
pub use Rattle.pgn_lexer.specs.TokensOf.{has_mark}
pub use Rattle.pgn_sections.specs.BadGame.{before_escapes, behind_line, behind_mark, behind_tags, end_at, end_by, end_in_comment, end_outside, first_escape, place_above, place_on, with_text, with_text_line, with_line, unread}
pub use Rattle.pgn_sections.specs.Bytes.{behind_name, behind_space, is_name_byte, name_length, begins_with, behind_byte, is_stray}
pub use Rattle.pgn_sections.specs.FirstLine.{line_from, line_to_return}
pub use Rattle.pgn_sections.specs.Line.{end_before, front_in, has_mark_at, is_whole_mark, line_begun, line_over, line_with, mark_with}
pub use Rattle.pgn_sections.specs.Lines.{ends_line, lines_of, place_in, with_first, first_place, next_place}
pub use Rattle.pgn_sections.specs.Outside.{ends_with_tag, is_byte, last_text, open_comment, outside_text, without_comments, first_text, number_at_front, number_behind_bracket, ends_with_marker, last_word, comment_after, is_closed, outside_byte}
pub use Rattle.pgn_sections.specs.PairProgress.{front_with, at_pair, front_at, is_between, is_whole, pair_after}
pub use Rattle.pgn_sections.specs.Pieces.{CanFollow, FindsPlace, IsSameGame, behind_lines, ends_with_line_feed, whole_lines}
pub use Rattle.pgn_sections.specs.Search.{byte_taken, byte_taken_if, ended_at, line_ended, place_at_end, place_behind, reader_of, reader_over, reader_with}
pub use Rattle.pgn_sections.specs.Shape.{begun, shape_over, shape_with, text_of_shape}
pub use Rattle.pgn_sections.specs.TagLine.{behind_pair, behind_stray, tag_line, behind_left_bracket, behind_pairs, behind_quote, behind_right_bracket, behind_some_pairs, behind_tag_name, behind_value, is_stray_or_mark, bytes_before_bracket, has_quoted_value, is_at_bracket, is_event, mark_after, one_more, tag_begin, tag_line_behind}
pub use Rattle.pgn_sections.specs.TagProgress.{tag_found, at_front, is_event_name, is_front, is_marked_after, name_with, no_tag_read, tag_after, tag_of, tag_with}
pub use Rattle.pgn_sections.specs.Text.{comment_of, nothing_read, outside_of, text_from, text_with, comment_in, fronts_with, has_marker, no_fronts, shape_with_seen, word_with, word_with_seen}
pub use Rattle.pgn_sections.specs.declared.bad_game.BadGame.{BadGame}
pub use Rattle.pgn_sections.specs.declared.bad_game.Ends.TheVariants.{Anywhere, InComments, Nowhere}
pub use Rattle.pgn_sections.specs.declared.line.Line.{Line}
pub use Rattle.pgn_sections.specs.declared.outside.Comment.TheVariants.{Braces, Closed, RestOfLine}
pub use Rattle.pgn_sections.specs.declared.outside.Shape.{Shape}
pub use Rattle.pgn_sections.specs.declared.pair.FrontOfLine.{FrontOfLine}
pub use Rattle.pgn_sections.specs.declared.pair.PairProgress.TheVariants.{Missing, Stray, BehindLeft, InName, BehindName, InValue, BehindBackslash, BehindValue, Whole}
pub use Rattle.pgn_sections.specs.declared.search.LineReader.{LineReader}
pub use Rattle.pgn_sections.specs.declared.tag_line.TagLine.{TagLine}
pub use Rattle.pgn_sections.specs.declared.tag_line.TagSearch.{TagSearch}
pub use Rattle.pgn_sections.specs.declared.text.Text.{Text}
pub use Rattle.std.proofs.Common.{◌≡◌, ℕ, ◌+◌, Bool, true, false, List, [], ◌∷◌, None, Some, drop, take, refl, ◌∙◌, ap, arith, ◌-◌, ◌≤◌, Option, length, sym, ap₂, ◌<◌, ◌++◌, append-nil, subst}
pub use Rattle.std.proofs.lemmas.Bool.{true≢false, false≢true, lt-ltb}
pub use Rattle.std.proofs.lemmas.Grind.{common_steps}
pub use Rattle.std.proofs.lemmas.List.{length-drop, drop_all, append_assoc, length-append, drop-drop, length-take-le, take_rest}
pub use Rattle.std.specs.List.{prefix_len, list_all, list_any, cons_option, ends_with}
pub use Rattle.std.specs.Option.{option_and_then}
pub use Rattle.std.specs.Prelude.{cond, suc, nat_le, if◌then◌else◌, ◌&&◌, ◌||◌, ◌==◌, not, is_some, IsTrue, IfSome, nat_lt, zero, option_map, codes, bytes_eq}
pub use mathlib.Core.Bool.{and-false, or-true, and-true, or-false}
