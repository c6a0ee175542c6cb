mod CheckedRows
mod Drawn
mod FilledRows
mod LegalRows
mod MoveRows
mod PlyRows
mod PositionRows
mod TriedRows
mod WorkedRows
pub mod Words
