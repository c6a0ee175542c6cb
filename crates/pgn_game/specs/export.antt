-- **Definition**: the export text of a game.
pub mod TagSection
pub mod Text
pub mod Due
