mod Divisors
mod PaneMaps
mod WorkedPanes
pub mod PaneRows
mod PaneWindows
mod PanePoints
mod PaneParts
mod PaneCuts
pub mod PaneFolding
mod PaneMerging
pub mod PaneRooms
