-- What an accepted token adds to the reader and to the text.
pub mod CodeLevelsToStored
pub mod EndToGame
pub mod EventToGame
pub mod ItemToMovetext
pub mod ItemToReader
pub mod ItemsAppended
pub mod MarkerToReader
pub mod NumberToTokens
pub mod PairStepToReader
pub mod PlayedMovesAreLegal
pub mod ReadTokensFitOnLines
pub mod SilentReader
pub mod TokenAtPlace
pub mod TokenToEvent
pub mod WritesInTurn
