use Rattle.pgn_lexer.specs.PartialToken.{HasRoom}
use Rattle.pgn_lexer.proofs.Words.{◌≡◌, ◌-◌, length, LexMode, longest_of, PartialToken, Ran}
use Rattle.pgn_lexer.proofs.stepping.CopiedBytes.{Copied}
use Rattle.pgn_lexer.proofs.partial_token.PartialToken.copy_text.Given as goal

abbrev pub invariant-loop-used : goal.invariant-loop-used
invariant-loop-used l = record {
  copied : Copied l.from l.used l.end l.piece (length l.self-inside.buffer.items) (longest_of l.text);
  room : HasRoom l.self-inside.mode l.self-inside.buffer.items;
  inside : l.self-inside.mode ≡ LexMode.Text l.text;
  ran : (old : PartialToken) → Ran l.place old l.piece l.fn.self l.from
      → Ran l.place old l.piece (record { mode = l.self-inside.mode; at = l.self-inside.at; text = l.self-inside.buffer.items }) l.used;
}

abbrev pub decreases-loop-used : goal.decreases-loop-used
decreases-loop-used l = l.end - l.used
