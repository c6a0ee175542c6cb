-- Why a token is rejected, and where another one leads.
pub mod ReaderToPart
pub mod RefusalsByStage
pub mod RefusalsInMovetext
