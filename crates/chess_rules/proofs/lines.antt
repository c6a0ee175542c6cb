-- The lines through a square, what is seen along them, and what attacks it.
pub mod AttackToReach
pub mod ClearWays
pub mod InView
pub mod LinesThrough
pub mod LinesToBetween
pub mod SeenAlong
