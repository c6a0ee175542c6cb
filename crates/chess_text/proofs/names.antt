-- SAN: the text that is written for a move.
pub mod OneMoveAgrees
pub mod TextsToMoves
pub mod UciToMove
pub mod WrittenToForm
