mod Counted
pub mod Stamps
mod KindLaws
pub mod PastLaws
mod Alike
mod FreeSteps
mod SliceFacts
