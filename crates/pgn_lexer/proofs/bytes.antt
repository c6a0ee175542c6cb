-- What the code's classes, tables and numbers say of bytes.
pub mod ClassToTest
pub mod DecimalsAreSymbols
pub mod RunsOfASet
pub mod TablesOfBytes
