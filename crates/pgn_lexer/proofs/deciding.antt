-- The tokens that are decided.
pub mod CommonTokens
pub mod GivenAreDecided
pub mod TextSettles
