-- The items of games one by one.
pub mod BufferToItems
pub mod CurrentFitsInMemory
pub mod EventToItem
pub mod ItemsAhead
pub mod ItemsAtStart
pub mod ItemsJoined
pub mod ItemsRestarted
pub mod LastTokenToItems
pub mod MissingTakesMarker
pub mod SilentEvents
pub mod SourceToItems
pub mod TokenToItems
pub mod WholeTokenToItems
