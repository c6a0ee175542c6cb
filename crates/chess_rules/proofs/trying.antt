-- The candidates of a move, and the pairs that are tried.
pub mod CandidatesAreFew
pub mod FoundLists
pub mod LegalIsTried
pub mod PairCounts
pub mod PairsFromOrigin
pub mod PromotionsAlike
pub mod SearchThatCounts
pub mod SetsToPairs
