-- The text of a move as a form, and the moves that a form names.
pub mod AgreeingAreFound
pub mod CandidatesInTurn
pub mod CastlingMoves
pub mod CommonForms
pub mod FormOriginKinds
pub mod FormToSpelling
pub mod MoverOfMove
pub mod OnlyElement
pub mod PairsToFind
pub mod PieceForms
pub mod SpellingToForm
