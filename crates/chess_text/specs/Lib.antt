-- **Bookkeeping**: the list of this crate's files of definitions.
pub mod Key
pub mod Beside
pub mod Letter
pub mod Placement
pub mod Items
pub mod Field
pub mod Fen
pub mod Form
pub mod MoveOfForm
pub mod FormOrigins
pub mod San
pub mod Laws
pub mod WrittenMove
pub mod Uci
pub mod WrittenRank
