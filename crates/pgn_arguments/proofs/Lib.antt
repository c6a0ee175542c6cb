-- Lemmas on the command line of the program.
mod Words
mod commands
mod rows
