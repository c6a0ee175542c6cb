-- Squares and sets of squares.
pub mod AllSquares
pub mod LowestAndHighest
pub mod SetsToSquares
pub mod TablesOfSquares
pub mod WordsToCells
pub mod RanksToWords
