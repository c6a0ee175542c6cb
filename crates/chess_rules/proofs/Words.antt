-- The words that proofs of this crate name, under one path.
pub use Rattle.chess_rules.specs.Attacks.{attacks, cell_attacks, is_ahead, is_attacked, is_clear, kind_attacks, king_attacked}
pub use Rattle.chess_rules.specs.Board.{Board, at, cell_of, has_colour, has_piece, is_empty, is_pawn, kings, other, put, same_colour, same_kind, some_piece}
pub use Rattle.chess_rules.specs.Candidate.{candidates, is_candidate, kinds, lone, sees}
unfoldable pub use Rattle.chess_rules.specs.Candidate.{pair_count}
pub use Rattle.chess_rules.specs.Codes.{code_of, code_reaches, kind_code}
pub use Rattle.chess_rules.specs.Laws.{CandidatesComplete, CasesApart, FewCandidates, LeavesPosition, PromotionsAlike, StepsFromCandidates}
pub use Rattle.chess_rules.specs.Legal.{every_promotion, has_legal_move, if_safe, is_check, is_legal, legal}
pub use Rattle.chess_rules.specs.LegalMoves.{moves_between, played, legal_moves}
unfoldable pub use Rattle.chess_rules.specs.LegalMoves.{every_move, legal_among}
pub use Rattle.chess_rules.specs.Tries.{is_tried, promotions_from}
unfoldable pub use Rattle.chess_rules.specs.Tries.{pending_tries, tries_from, tries_left, tries_to, with_later}
pub use Rattle.chess_rules.specs.declared.legal_moves.Tries.{Tries}
pub use Rattle.chess_rules.specs.declared.position.Played.{Played}
pub use Rattle.chess_rules.specs.Pairs.{Counts, is_king_step, is_untried, is_untried_aligned, one_move, HasAttacker, MeetsAttack}
unfoldable pub use Rattle.chess_rules.specs.Pairs.{count_king_steps, count_untried, has_king_step, has_untried_move, is_legal_pair}
pub use Rattle.chess_rules.specs.Position.{initial, is_position, one_king, pawn_on_edge, target_fits, target_rank, built}
pub use Rattle.chess_rules.specs.Reach.{IsLine, has_kind, is_aligned, is_near, is_steep, king_square, may_attack, may_see, reaches, reaches_from, slides, square_at}
pub use Rattle.chess_rules.specs.Square.{Square, between_on_diagonal, between_on_file, between_on_rank, gap, in_line, inside, is_adjacent, is_jump, lines, on_board, on_diagonal, same_square, square, strictly_between}
unfoldable pub use Rattle.chess_rules.specs.Square.{squares}
pub use Rattle.chess_rules.specs.Step.{Wing, after, board_after, captured_pawn, carried, castled, castles, castles_long, castles_short, double_rank, en_passant_board, full_after, half_after, home, home_rank, is_advance, is_double_step, is_en_passant, is_on_board, is_pawn_step, is_pawn_way, is_piece_step, is_target, keeps, kind_of, last_rank, long_right, long_wing, own, pawn_rank, promoted, promotion_fits, rights_after, short_right, short_wing, step, target_after, is_king_move, is_unattacked, stand_ready}
unfoldable pub use Rattle.chess_rules.specs.StepKinds.{step_kind}
pub use Rattle.chess_rules.specs.StoredPosition.{FitsPosition, parts_of}
pub use Rattle.chess_rules.specs.Words.{AreWords, Bits, HasNone, IsFirst, IsFrom, IsHighest, IsLowest, IsUpTo, Places, Sets, TakesLowest, cell_in, coded, lanes_of, word, words, diagonal_of, straight_of}
unfoldable pub use Rattle.chess_rules.specs.Words.{cells, has, has_any, members, word}
pub use Rattle.chess_rules.specs.declared.piece.Colour.{Colour}
pub use Rattle.chess_rules.specs.declared.piece.Colour.TheVariants.{Black, White}
pub use Rattle.chess_rules.specs.declared.piece.Kind.{Kind}
pub use Rattle.chess_rules.specs.declared.piece.Kind.TheVariants.{Bishop, King, Knight, Pawn, Queen, Rook}
pub use Rattle.chess_rules.specs.declared.piece.Piece.{Piece}
pub use Rattle.chess_rules.specs.declared.piece.Promotion.{Promotion}
pub use Rattle.chess_rules.specs.declared.position.Move.{Move}
pub use Rattle.chess_rules.specs.declared.position.Parts.{Parts}
pub use Rattle.chess_rules.specs.declared.position.PositionFault.{PositionFault}
pub use Rattle.chess_rules.specs.declared.position.PositionFault.TheVariants.{KingCapturable, Kings, NumberRange, PawnOnEdge, TargetRank}
pub use Rattle.chess_rules.specs.declared.position.Rights.{Rights}
pub use Rattle.chess_rules.specs.declared.step.StepKind.{StepKind}
pub use Rattle.chess_rules.specs.declared.step.StepKind.TheVariants.{EnPassant, LongCastling, Plain, ShortCastling}
pub use Rattle.std.proofs.Common.{Bool, Decides, List, None, Option, Some, [], ap, append-nil, append_assoc, ap₂, arith, cond, eqb, false, get_or, inl, inr, length, length-append, length-set, map, max, min, not, pow-suc, refl, set, subst, suc, sym, take, true, w64, zero, ℕ, ◌%◌, ◌&&◌, ◌*◌, ◌++◌, ◌+◌, ◌-◌, ◌/◌, ◌<◌, ◌^◌, ◌||◌, ◌∙◌, ◌∷◌, ◌≡◌, ◌≢◌, ◌≤◌, ◌⊎◌, add_comm, drop, replicate, rules}
pub use Rattle.std.proofs.Math.Nat.{div-div-eq-div-mul}
pub use Rattle.std.proofs.lemmas.Bool.{and_from, false_from_ne_true, false≢true, leb-true, not-true, or_cases, or_left, or_right, le-ltb, lt-ltb, ltb-false, ltb-true}
pub use Rattle.std.proofs.lemmas.Bool.Decides.{nat_tests}
pub use Rattle.std.proofs.lemmas.Cmp.{nat_eq_equiv}
pub use Rattle.std.proofs.lemmas.Grind.{get_or-set_at, common_steps}
pub use Rattle.std.proofs.lemmas.List.{ext_get_or, get_or-set_other, get_or-set_same, take_all, take_more, take_more_set, drop-drop, length-drop, length-replicate, length-take, length-take-le, replicate-append-replicate, take-append-drop, take_at, get_or-map, length-map, map-append}
pub use Rattle.std.proofs.lemmas.List.Folds.{fold-map, list_all-append, list_any-append, list_any_at}
pub use Rattle.std.proofs.lemmas.List.FromFn.{get_or-map-range_with_len, get_or-range_with_len, length-map-range_with_len, length-range_with_len}
pub use Rattle.std.proofs.lemmas.List.Quantifiers.{position-Some}
pub use Rattle.std.proofs.lemmas.List.Recursion.{is_count_by}
pub use Rattle.std.proofs.lemmas.List.Sums.{sum_by-cons, sum_by-le-sum_by, sum_by-set, AllPass-from_list_all, list_all-from_AllPass, sum_by-le}
pub use Rattle.std.proofs.lemmas.Map.Made.{AllPairs-from_IsDistinct, IsDistinct-from_count, length-from_same_keys}
pub use Rattle.std.proofs.lemmas.Nat.{and_le_r, leading_length, or_lt, pow-add, ones_cat}
pub use Rattle.std.proofs.lemmas.Nat.Bits.{bit_at-lt, bit_at-pow_other, bit_at-pow_same, bit_at-suc, bit_at-trailing_zeros, bit_at_above, bit_at_and, bit_at_mask_above, bit_at_mask_below, bit_at_mask_inside, bit_at_lowest, bit_at_not, bit_at_ones, bit_at_ones_above, bit_at_or, same_from_bits_below, shr_and_one}
pub use Rattle.std.specs.Bool.{then_some}
pub use Rattle.std.specs.Cmp.{IsEquivalence}
pub use Rattle.std.specs.Int.{bit_at, bit_not, leading_zeros, trailing_zeros}
pub use Rattle.std.specs.List.{AllByRecursion, cons_option, filter, filter_map, flat_map, list_all, list_any, position_or_len, range_with_len, sum_by}
unfoldable pub use Rattle.std.specs.List.{IsDistinct}
pub use Rattle.std.specs.Prelude.{AllPairs, IfSome, count_by, if◌then◌else◌, is_none, is_some, nat_le, nat_lt, option_map, position, unwrap_or, ◌==◌, Contains, ◌↔◌}
pub use Rattle.chess_rules.specs.RankNumbers.{bytes_of_bits, bytes_of_runs, number_of_piece, numbers, word_of_bytes}
pub use Rattle.std.specs.Int.Bits.{bit_and, bit_or}
pub use Rattle.chess_rules.specs.declared.board.Board.TheInside.{Inside}
pub use Rattle.std.proofs.lemmas.List.Elements.{filter_map-append, Contains-append_left, Contains-append_right}
