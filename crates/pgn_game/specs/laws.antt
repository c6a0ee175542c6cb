-- **Definition**: what the laws of `laws` say.
pub mod EqualReadings
pub mod SilentReadings
pub mod ItemsJoined
pub mod Laws
pub mod MovesAreLegal
pub mod UniqueReading
pub mod FixedPoint
pub mod GamesRestart
pub mod GamesJoined
pub mod GameEnds
pub mod MissingResults
pub mod Filled
pub mod MovetextLines
