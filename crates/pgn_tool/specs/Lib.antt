-- **Bookkeeping**: the list of this crate's files of definitions.
pub mod ListLines
pub mod TaskRun
pub mod CheckedRun
pub mod Replies
pub mod FileName
pub mod Files
pub mod SplitFiles
pub mod Machine
pub mod FileSystem
pub mod Standard
pub mod Program
pub mod Devices
pub mod SplitGames
pub mod BetweenGames
