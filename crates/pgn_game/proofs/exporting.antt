-- An export, read and written again.
pub mod ExportAgain
pub mod ExportToGames
pub mod GameTextToGame
pub mod GameToResult
pub mod MoveTextToMove
pub mod MovetextOfMode
pub mod MovetextToItems
pub mod PairsExportedAgain
pub mod PiecesToTokens
pub mod SpelledToSound
