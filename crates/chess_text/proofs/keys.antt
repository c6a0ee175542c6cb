-- Keys of positions, and who takes en passant.
pub mod EnPassant
pub mod KeyToPosition
pub mod SameMoves
