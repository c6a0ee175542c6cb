-- **Bookkeeping**: the list of this crate's files of definitions.
pub mod Results
pub mod Positions
pub mod LinesOfPlay
pub mod Explanation
pub mod TagAt
pub mod TagScan
pub mod NextGame
pub mod NextGameSteps
pub mod NextSection
pub mod NextLine
pub mod ItemLines
pub mod ItemSteps
pub mod MoveNumbers
pub mod MoveNumberSteps
pub mod UnusualParts
