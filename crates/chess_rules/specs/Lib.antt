-- **Bookkeeping**: the list of this crate's files of definitions.
pub mod Square
pub mod Words
pub mod Board
pub mod Attacks
pub mod Position
pub mod Step
pub mod Legal
pub mod Candidate
pub mod Codes
pub mod Laws
pub mod Reach
pub mod StepKinds
pub mod StoredPosition
pub mod Pairs
pub mod RankNumbers
pub mod LegalMoves
pub mod Tries
