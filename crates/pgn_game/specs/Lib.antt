-- **Bookkeeping**: the list of this crate's folders of definitions.
pub mod games
pub mod export
pub mod laws
pub mod public
pub mod steps
