-- The rules that a position meets.
pub mod OneKing
pub mod RulesOfPosition
