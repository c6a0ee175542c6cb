-- **Definition**: games, the standard's rules of what is read into them, and the faults.
pub mod Reason
pub mod Pairs
pub mod Markers
pub mod Profile
pub mod Chess
pub mod Game
pub mod Levels
pub mod FaultTable
pub mod Progress
pub mod Spells
