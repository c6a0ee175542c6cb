use Rattle.pgn_c.proofs.Words.{arith, continues_symbol}
use Rattle.std.proofs.lemmas.List.FromFn.{get_or-map-range_with_len}
use Rattle.pgn_c.proofs.move_numbers.continues_symbol.Goals as goal

pub returns : goal.returns
returns c = get_or-map-range_with_len continues_symbol 0 256 c.args.byte c.args.byte _ c.ranges.byte.fits (omega arith)
