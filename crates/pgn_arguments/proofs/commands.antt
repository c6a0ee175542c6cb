-- The words of a command line.
pub mod BuilderSteps
pub mod KindsToAnswer
pub mod SubcommandToRequest
