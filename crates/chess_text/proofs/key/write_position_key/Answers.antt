use Rattle.chess_text.proofs.Words.{◌≡◌, length, position_key, rules}
use Rattle.chess_text.proofs.keys.KeyToPosition.{copied, four_written, length-key}
use Rattle.chess_text.proofs.key.write_position_key.Goals.{After-as_slice-2}
use Rattle.chess_text.proofs.key.write_position_key.Goals as goal

-- the text before it is copied
text_is : (c : After-as_slice-2) → c.as_slice-2.result.now ≡ position_key c.args.position.now
text_is c = search (rules, four_written)

pub returns-clause-key : goal.returns-clause-key
returns-clause-key c = search (rules, text_is, length-key, copied, length)
