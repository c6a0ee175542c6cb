mod Words
mod EscapedBytes
mod LineRows
mod LineTextRows
mod LinesOfTokens
pub mod OneWriteMore
pub mod PutsInTurn
mod TokensInText
