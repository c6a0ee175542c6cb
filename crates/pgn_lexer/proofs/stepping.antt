-- One byte, or the end of the text, gives the tokens that the definition gives.
pub mod ByteGives
pub mod ByteInComment
pub mod ByteInGlyph
pub mod ByteInString
pub mod ByteInText
pub mod ByteOutside
pub mod CopiedBytes
pub mod EndGives
pub mod PieceByByte
pub mod RunOfBytes
pub mod RunsInPiece
pub mod StandsAfterCalls
pub mod StepGives
pub mod WholeRuns
