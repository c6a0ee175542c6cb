-- FEN: reading and writing positions.
pub mod BoardToText
pub mod CanonicalText
pub mod FenLaws
pub mod FieldsOfText
pub mod LanesOfItems
pub mod NumbersToText
pub mod ReadingToSpelling
pub mod SpellingToReading
pub mod TextToBoard
