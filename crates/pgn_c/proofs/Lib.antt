-- Lemmas on the memory that a caller is given, on the lines of tag pairs and of plies, on the bytes
-- between move numbers, and on what is unusual in a game.
pub mod ConversionToBuffer
pub mod MarkerTaken
pub mod ReadingGoesOn
pub mod SecondReading
pub mod MoreBytesBehind
pub mod PairsOnLines
pub mod NextGames
pub mod PlyLines
pub mod SectionStructs
pub mod ZerosBehind
pub mod Words
pub mod TagSections
pub mod GivenLists
pub mod ItemsWritten
pub mod ItemTexts
pub mod ItemsGiven
pub mod PutTwice
pub mod TextAhead
pub mod NumbersRead
pub mod NumberRows
pub mod UnusualRead
pub mod UnusualRows
