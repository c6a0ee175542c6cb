-- Lemmas on the program.
mod rows
mod runs
mod splitting
mod NameToNumber
mod Words
