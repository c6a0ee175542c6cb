-- The rules on whole runs of bytes, and what the tokens of a text are.
pub mod EachTextIsCut
pub mod PlacesOfTokens
pub mod RulesToTokens
pub mod StringData
pub mod SymbolsInText
pub mod TextsRestart
pub mod TokensAreSound
pub mod WrittenToTokens
