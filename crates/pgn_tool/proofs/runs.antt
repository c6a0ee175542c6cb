-- Runs of a task, and the lines of a list.
pub mod CallToLines
pub mod CheckedConversionToFront
pub mod CheckedConversionToRun
pub mod ConversionToRun
pub mod FileToRun
pub mod LineOfGame
