-- **Bookkeeping**: the list of this crate's files of definitions.
pub mod Bytes
pub mod TagLine
pub mod Outside
pub mod Shape
pub mod Text
pub mod PairProgress
pub mod TagProgress
pub mod BadGame
pub mod Line
pub mod Lines
pub mod FirstLine
pub mod Pieces
pub mod Search
pub mod LineReaders
