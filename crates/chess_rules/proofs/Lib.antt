mod Words
pub mod listing
pub mod lines
pub mod moves
pub mod positions
pub mod sets
pub mod trying
