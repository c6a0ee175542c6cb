-- Worked rows.
pub mod RunRows
pub mod SplitRows
