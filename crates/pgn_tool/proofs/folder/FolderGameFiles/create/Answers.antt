use Rattle.pgn_tool.proofs.Words.{◌∙◌}
use Rattle.pgn_tool.proofs.NameToNumber.{numbered-making}
use Rattle.pgn_tool.proofs.folder.FolderGameFiles.create.Goals as goal

pub returns-in-Ok-clause-log : goal.returns-in-Ok-clause-log
returns-in-Ok-clause-log g c =
    numbered-making _ _ _ c.args.number _ c.ranges.number.fits
    (c.as_str.ensures.value ∙ c.file_name.ensures) c.in-Ok.ensures.log

pub returns-in-Err-Refused-clause-log : goal.returns-in-Err-Refused-clause-log
returns-in-Err-Refused-clause-log g c =
    numbered-making _ _ _ c.args.number _ c.ranges.number.fits
    (c.as_str.ensures.value ∙ c.file_name.ensures)
    (rw c.in-Err-Refused.field-0-is at c.in-Err-Refused.ensures.log)

pub returns-in-Err-NoMemory-clause-log : goal.returns-in-Err-NoMemory-clause-log
returns-in-Err-NoMemory-clause-log g c =
    numbered-making _ _ _ c.args.number _ c.ranges.number.fits
    (c.as_str.ensures.value ∙ c.file_name.ensures)
    (rw c.in-Err-NoMemory.field-0-is at c.in-Err-NoMemory.ensures.log)
