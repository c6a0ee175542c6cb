-- The words that rows name, under one path.
pub use Prim.Native.String.{String}
pub use Rattle.chess_rules.specs.Square.{Square, square}
unfoldable pub use Rattle.chess_rules.specs.Square.{squares}
pub use Rattle.chess_rules.specs.declared.piece.Colour.TheVariants.{Black, White}
pub use Rattle.chess_rules.specs.declared.piece.Kind.TheVariants.{Bishop, King, Knight, Pawn, Queen, Rook}
pub use Rattle.chess_rules.specs.declared.piece.Promotion.{Promotion}
pub use Rattle.chess_rules.specs.declared.position.Move.{Move}
pub use Rattle.chess_rules.specs.declared.position.Parts.{Parts}
unfoldable pub use Rattle.chess_text.specs.MoveOfForm.{agreeing}
unfoldable pub use Rattle.pgn_game.specs.games.Chess.{first_position, move_of, play, position_of, text_of_move}
pub use Rattle.pgn_game.specs.games.FaultTable.{rows}
unfoldable pub use Rattle.pgn_game.specs.games.FaultTable.{refusal}
pub use Rattle.pgn_game.specs.games.Game.{Game, Item, close_variation, move, no_part, open_variation}
pub use Rattle.pgn_game.specs.games.Pairs.{Pair}
pub use Rattle.pgn_game.specs.games.Profile.{Profile, counts_as, takes_the_marker}
pub use Rattle.pgn_game.specs.games.Progress.{Counted, Verdict, due, output, read, refused, totals, verdict}
unfoldable pub use Rattle.pgn_game.specs.export.TagSection.{roster}
pub use Rattle.pgn_game.specs.declared.mode.Mode.TheVariants.{Full, Reduced}
pub use Rattle.pgn_game.specs.declared.reason.Reason.TheVariants.{AmbiguousMove, BadFen, BadResult, BadTagName, Changed, DuplicateTag, ExpectedBracket, ExpectedName, ExpectedValue, IllegalMove, Lexical, MarkerInVariation, MoveLimit, NoMoveBefore, NotAMove, ReducedFen, ResultDiffers, SetUpWithoutFen, TagInMovetext, TagLineTooLong, TooDeep, TooManyTags, UnexpectedEnd, UnmatchedClose}
pub use Rattle.pgn_lexer.specs.TokensOf.{tokens_of}
pub use Rattle.pgn_lexer.specs.declared.token.LexReason.{LexReason}
pub use Rattle.std.proofs.Common.{List, None, [], arith, false, length, refl, sym, true, ℕ, ◌++◌, ◌∙◌, ◌∷◌, ◌≡◌}
unfoldable pub use Rattle.std.specs.Fmt.{digits}
pub use Rattle.std.specs.Prelude.{Bool, Option, Some, codes, count_by, find, flat_map, if◌then◌else◌, map, nat_le, option_map, replicate, sum_by, take, unwrap_or, ◌&&◌, ◌+◌, ◌-◌, ◌==◌}
