-- The law of one reading: by the grammar, exactly the games are spelled that are
-- read.
pub mod GrammarRows
pub mod GrammarToReading
pub mod MovetextTokens
pub mod PairsInTurn
pub mod ReadingToGrammar
pub mod RunsToEnd
