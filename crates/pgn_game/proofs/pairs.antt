-- Tag pairs: the order of names, and the value of a name.
pub mod EscapedLength
pub mod ExportedValues
pub mod NameOrder
pub mod PairsToFirstPosition
pub mod SectionByIndex
pub mod SectionByLines
pub mod SortedPairs
pub mod StoredPlaces
pub mod ValuesByName
