-- The lemmas that the proofs of the reader cite, under one path.
pub use Rattle.pgn_game.proofs.ReaderFitsInMemory.{game_alike, reader_alike}
pub use Rattle.pgn_game.proofs.ReaderPartsFitInMemory.{reader_fits, tags_fit, text_fits}
pub use Rattle.pgn_game.proofs.pairs.PairsToFirstPosition.{start_faults, start_fine, told_read}
pub use Rattle.pgn_game.proofs.putting.PairStepToReader.{puts_left_bracket, puts_name, puts_right_bracket, puts_value, to_name, to_stage, to_value}
pub use Rattle.pgn_game.proofs.reading.MovetextTokens.{number_no_score}
pub use Rattle.pgn_game.proofs.refusals.ReaderToPart.{begun_name, entry_after_tags, entry_in_movetext, held_at, lacks_of, may_have_whole, no_name, no_name_held, part_stage}
pub use Rattle.pgn_game.proofs.refusals.RefusalsByStage.{close_next, close_refusal, end_after_tags, expected_bracket, expected_name, expected_value, hit, name_next, name_refusal, name_rows, open_next, open_refusal, pass, refuses_set_up, textual, value_next, value_refusal, value_rows}
pub use Rattle.pgn_game.proofs.refusals.RefusalsInMovetext.{depth_is, differs, holds_is, marker_differs, marker_free, marker_inside, none_around, number_free, number_leads, test_of}
pub use Rattle.pgn_game.proofs.stepping.PairsTriedForToken.{adds_same, number_untried}
pub use Rattle.pgn_game.proofs.stepping.PutToAnswer.{comment_in_pair, counting_none, enters, no_symbol_counted, passes_first, plain_counted, refused_after, refused_in_pair, step_in_pair, takes_outside_first, takes_step}
