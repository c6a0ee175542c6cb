-- **Bookkeeping**: what the converter stores, and what its parts do with it. Public definitions use
-- some of it: `GameState` with `Agrees`, `IsKnown`, `silenced` and `plies_of_finished_games`,
-- `HoldsItems`, `is_outside_the_table`, `sink_of` and `KeepsSilence`.
pub mod TokenInMovetext
pub mod TokenTaken
pub mod StoredPairs
pub mod Movetext
pub mod ItemResult
pub mod Judged
pub mod GameState
pub mod ConverterSteps
pub mod Flow
pub mod GamesSteps
pub mod SourceFlow
pub mod Readings
pub mod LineWords
pub mod SectionLines
pub mod SectionPairs
pub mod Accepted
pub mod ItemsSteps
pub mod SkippingSteps
