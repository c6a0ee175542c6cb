-- Worked rows.
pub mod CuttingRows
pub mod SoundRows
pub mod TokenRows
pub mod WrittenRows
