-- Reading on: from where a call stands to where it leaves.
pub mod GamesGoOn
pub mod KnownResults
pub mod Takes
pub mod InPiece
pub mod InTurn
pub mod PastNumbers
pub mod StepsIn
pub mod Stops
pub mod PieceOfAnyLength
pub mod Fed
pub mod FedFront
pub mod AtEnd
pub mod NextGame
