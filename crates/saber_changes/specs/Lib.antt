pub mod Counts
pub mod Rising
pub mod Spans
pub mod Walks
pub mod Outputs
pub mod OutputFacts
