-- The moves that `LegalMoves` tries, and the list of all legal moves.
pub mod EachListedOnce
pub mod FlatMaps
pub mod LegalAmongTries
pub mod LegalIsListed
pub mod MovesInList
pub mod TriesAreFew
pub mod TriesInOrder
