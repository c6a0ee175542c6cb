-- The words that proofs of this crate name, under one path.
pub use Rattle.std.proofs.Common.{Bool, List, [], add-one, ap, append-nil, append_assoc, ap₂, arith, cond, drop, drop-cons, false, get_or, inl, inr, length, length-append, length-drop, map, nat_le, not, refl, replicate, reverse, rules, set, subst, suc, sym, take, true, zero, ℕ, ◌&&◌, ◌*◌, ◌++◌, ◌+◌, ◌-◌, ◌/◌, ◌<◌, ◌^◌, ◌||◌, ◌∙◌, ◌∷◌, ◌≡◌, ◌≢◌, ◌≤◌, ◌⊎◌, lit<, pow-suc, ◌%◌}
pub use Rattle.std.proofs.lemmas.Bool.{and_from, and_left, and_parts, and_right, both_ways, cases_Bool, cases_lt, eq-eqb, eqb-true, cases_eq, leb-true, false_from_ne_true, false≢true, lt-ltb, ltb-true, not-false, not-true, or_cases, or_from, or_parts, or_right}
pub use Rattle.std.proofs.lemmas.Bool.Decides.{nat_tests}
pub use Rattle.std.proofs.lemmas.Fmt.{decimal_nonempty, digits_decimal, digits_value-decimal, length-decimal-le}
pub use Rattle.std.proofs.lemmas.List.{append_cancel_left, drop_all, get_or-map, length-map, length-reverse, length-take, map-append, replicate_more, reverse-append, reverse-reverse, take-append-drop, take-replicate, take-take, take_all, take_more, take_more_set, take_rest, ext_get_or, get_or-replicate, get_or-set_other, length-replicate, replicate-append-replicate, take-set, take_at, take-append-le, length-set}
pub use Rattle.std.proofs.lemmas.List.Concat.{flat_map-append}
pub use Rattle.std.proofs.lemmas.List.Elements.{All-weaker, Contains-append_left, Contains-append_right, filter_map-append, filter_passes}
pub use Rattle.std.proofs.lemmas.List.Folds.{Any-from_list_any, length-flat_map-take, list_all-append, list_all_at, list_any_at, list_any_more}
pub use Rattle.std.proofs.lemmas.List.FromFn.{get_or-map-range_with_len, get_or-range_with_len, length-range_with_len}
pub use Rattle.std.proofs.lemmas.List.Sorted.{All-permutation, Contains-permutation, IsPermutation-refl, IsPermutation-sym, length_permutation, list_any-IsPermutation, sum_by-IsPermutation}
pub use Rattle.std.proofs.lemmas.List.Splits.{join_with_byte-slice_split, length-slice_split, slice_split-cons_no, slice_split-cons_yes}
pub use Rattle.std.proofs.lemmas.List.Sums.{passes_at_first, position_or_len_is, split_at_first, sum_by-cons, sum_by_more}
pub use Rattle.std.proofs.lemmas.Slice.Eq.{bytes_eq-Decides}
pub use Rattle.std.proofs.lemmas.Str.Parse.{IsNumeralModel, digits_value_short, numerals_by_fold}
unfoldable pub use Rattle.std.specs.Fmt.{digits}
pub use Rattle.std.specs.Int.{abs_diff}
pub use Rattle.std.specs.List.{All, Any, Contains, after_first, before_first, cons_option, filter, filter_map, join_with_byte, list_all, list_any, refill, onto_first, position_or_len, prefix_len, range_with_len, slice_split}
pub use Rattle.std.specs.List.Sorted.{IsPermutation}
pub use Rattle.std.specs.Option.{ok_or, option_to_list}
pub use Rattle.std.specs.Prelude.{Err, IfSome, IsTrue, None, Ok, Option, Result, Some, bytes_eq, codes, count_by, decimal, find, flat_map, fold, if◌then◌else◌, is_err, is_none, is_ok, is_some, nat_lt, option_map, slice_index_or, slice_set, sum_by, ◌==◌, ◌↔◌, IfOk, IsOk}
pub use Rattle.std.specs.Result.{OnOk}
pub use Rattle.chess_rules.specs.Attacks.{attacks, cell_attacks, is_ahead}
pub use Rattle.chess_rules.specs.Board.{Board, at, has_colour, has_piece, is_empty, other, same_kind}
pub use Rattle.chess_rules.specs.Candidate.{candidates, is_candidate, sees}
pub use Rattle.chess_rules.specs.Laws.{CandidatesComplete, OneKing, StepsFromCandidates}
pub use Rattle.chess_rules.specs.Legal.{every_promotion, if_safe, is_check, is_legal, is_mate, legal}
pub use Rattle.chess_rules.specs.Position.{built_unless, initial, is_position, position_fault, target_fits}
pub use Rattle.chess_rules.specs.Square.{Square, gap, is_adjacent, lines, on_board, same_square, square}
unfoldable pub use Rattle.chess_rules.specs.Square.{squares}
pub use Rattle.chess_rules.specs.Step.{Wing, captured_pawn, castles, castles_long, castles_short, crossed, double_rank, home, home_rank, is_en_passant, is_pawn_way, long_right, long_wing, own, pawn_rank, short_right, short_wing, step, after, board_after, carried, castled, en_passant_board, is_on_board, is_pawn_step, is_piece_step, promotion_fits, stand_ready, last_rank}
pub use Rattle.chess_rules.specs.declared.piece.Colour.{Colour}
pub use Rattle.chess_rules.specs.declared.piece.Colour.TheVariants.{Black, White}
pub use Rattle.chess_rules.specs.declared.piece.Kind.{Kind}
pub use Rattle.chess_rules.specs.declared.piece.Kind.TheVariants.{Bishop, King, Knight, Pawn, Queen, Rook}
pub use Rattle.chess_rules.specs.declared.piece.Piece.{Piece}
pub use Rattle.chess_rules.specs.declared.piece.Promotion.{Promotion}
pub use Rattle.chess_rules.specs.declared.position.Move.{Move}
pub use Rattle.chess_rules.specs.declared.position.Parts.{Parts}
pub use Rattle.chess_rules.specs.declared.position.PositionFault.TheVariants.{KingCapturable, Kings, NumberRange, PawnOnEdge, TargetRank}
pub use Rattle.chess_rules.specs.declared.position.Rights.{Rights}
pub use Rattle.chess_text.specs.Fen.{Fen, SpellsBoard, SpellsNumber, at_field, fen_text, field, if_position, is_space, parts_or_fault, parts_read, read, rest}
pub use Rattle.chess_text.specs.Field.{is_digit, is_target, number_of, rights_of, rights_text, side_of, side_text, target_of, target_text, value}
pub use Rattle.chess_text.specs.Form.{Spells, SpellsBare, SpellsPieceMove, bare_form, before_capture, before_file, before_marks, before_promotion, before_rank, before_sign, before_target, below_eight, capture_texts, castle_of, castle_or, file_at_end, file_of, form_of, front, front_if, hint_text, is_among, is_form, is_mark, kind_of_text, last_byte, letter_texts, piece_move_if, piece_move_of, promotion_at_end, promotion_letter, promotion_of, promotion_texts, promotions, rank_at_end, rank_of, square_of, target_at_end}
pub use Rattle.chess_text.specs.FormOrigins.{LegalOriginsDecide, count_legal, form_move, is_legal_kind, is_step_of_form, kind_of_move, nth_square, origin_kind}
unfoldable pub use Rattle.chess_text.specs.FormOrigins.{origins_of_form}
pub use Rattle.chess_text.specs.Laws.{CanonicalIsShortest, Names, NoMoveIsRead, ShorterIsAmbiguous, SingleReading, TheOneMoveIsRead, CanonicalFits, FaultIsLowest, FenOnce, FieldsAreSpellings, ReadingIsSpelling, TwoMovesAreAmbiguous, disambiguations, text_with}
pub use Rattle.chess_text.specs.Letter.{file_letter, kinds, letter, piece_letter, rank_digit, square_text, piece_of}
pub use Rattle.chess_text.specs.MoveOfForm.{agrees, castling_move, describes, form_pairs, hints_fit, is_castling, move_from, move_of_form, moves_to_try, only, piece_move_fits, played, same_promotion, with_next, with_next_position}
unfoldable pub use Rattle.chess_text.specs.MoveOfForm.{agreeing}
pub use Rattle.chess_text.specs.Placement.{cells_at, cells_of, is_item, is_rank, is_run, is_slash, placement_of, placement_text, one_cell, rank_text, ranks, row, run_text}
pub use Rattle.chess_text.specs.Items.{item}
pub use Rattle.chess_text.specs.San.{MarkPairs, capture_if, capture_text, castling_text, disambiguated_text, disambiguation, disambiguation_by, disambiguation_pairs, from_square, has_rivals, is_capture, is_rival, kind_pairs, kind_text, king_text, mark, mark_after, on_file, on_rank, pawn_capture, piece_text, promotion_text, rivals, san, unmarked}
pub use Rattle.chess_text.specs.WrittenMove.{IsMoveSymbol, WrittenMoveIsRead, WrittenMoveIsSymbol, begins_with_letter, is_letter, is_marker, is_move_byte}
pub use Rattle.chess_text.specs.declared.fen.FenFault.{FenFault}
pub use Rattle.chess_text.specs.declared.form.Form.{Form}
pub use Rattle.chess_text.specs.declared.form.Form.TheVariants.{Castle, Man}
pub use Rattle.chess_text.specs.declared.form_origins.OriginKind.{OriginKind}
pub use Rattle.chess_rules.specs.declared.position.Played.{Played}
pub use Rattle.chess_text.specs.declared.resolution.SanFault.{SanFault}
pub use Rattle.chess_text.specs.declared.resolution.SanFault.TheVariants.{Ambiguous, NoMove}
pub use Rattle.std.proofs.lemmas.Option.{cond_some, same_Some}
pub use Rattle.chess_text.specs.Uci.{UciIsExact, UciTextsDiffer, WrittenUciIsRead, if_legal, move_if, move_of_uci, move_with_text, promotion_named, square_named, uci, uci_promotion}
pub use Rattle.chess_text.specs.declared.form_origins.OriginKind.TheVariants.{Legal, NoStep, Unsafe}
pub use Rattle.chess_text.specs.declared.uci.UciFault.{UciFault}
pub use Rattle.chess_text.specs.declared.uci.UciFault.TheVariants.{IllegalMove, NotAMove}
pub use Rattle.std.proofs.Math.Seq.{drop-append-add, get_or-append_seam, take-append_seam}
pub use Rattle.std.proofs.lemmas.Grind.{common_steps, get_or-set_at}
pub use Rattle.chess_rules.proofs.lines.AttackToReach.{squares_same, none_or_all, kinds_same}
pub use Rattle.chess_rules.proofs.moves.WaysToStep.{some_of, passing_means}
pub use Rattle.chess_rules.proofs.positions.RulesOfPosition.{same_square-refl}
pub use Rattle.chess_rules.proofs.sets.AllSquares.{same_tests, squares_long, first_true, second_true}
pub use Rattle.chess_rules.proofs.sets.RanksToWords.{word-append, lanes_fit, lanes_nil, ranks_above}
pub use Rattle.chess_rules.proofs.trying.FoundLists.{list_any-filter}
pub use Rattle.chess_text.specs.Beside.{one_if, rank_behind, stands_on, takes_from, west_of}
pub use Rattle.chess_text.specs.Key.{attackers, is_taken_on, position_key, usable_rights, usable_target, takes_en_passant, move_to, if_taken_on, pairs_on, key_pairs, KeysTell, SamePosition, SameMovesLegal, stand_at_home}
pub use mathlib.Core.Bool.{and-false, or-false, or-true, and-true}
