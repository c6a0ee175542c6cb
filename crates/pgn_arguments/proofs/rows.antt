-- Worked rows.
pub mod CommandRows
