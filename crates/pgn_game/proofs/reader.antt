-- A lemma that the proofs of the reader, of games and of both readings cite.
pub mod ErrorReturned
