-- Each game in a file of its own.
pub mod BytesOfFile
pub mod FilesOfGames
pub mod GameToFiles
pub mod NoWriteFaultInTable
