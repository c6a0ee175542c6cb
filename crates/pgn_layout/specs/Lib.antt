-- **Bookkeeping**: the list of this crate's files of definitions.
pub mod Device
pub mod TagLine
pub mod Lines
pub mod LineText
pub mod Layout
pub mod Outlet
pub mod Laws
