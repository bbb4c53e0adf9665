mod GroupPlans
pub mod Lasting
pub mod Opened
pub mod Completing
pub mod Gathered
pub mod Completed
pub mod RowsTogether
pub mod Running
pub mod SlicesTaken
pub mod PiecesTaken
pub mod SliceKeeping
pub mod Keeping
pub mod Making
pub mod SlicesGiven
