-- An input that is read twice: from the tokens of each reading to the conversion.
pub mod CountingToTaking
pub mod FailuresOfSteps
pub mod GamesOfReadings
pub mod MarkerCounts
pub mod SourceToReading
pub mod MarkersInTurn
pub mod ReadingsToConversion
pub mod TakingToCounting
