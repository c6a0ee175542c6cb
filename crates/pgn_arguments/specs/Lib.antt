-- **Bookkeeping**: the list of this crate's files of definitions.
pub mod CommandLine
pub mod Requests
