pub mod Sources
pub mod LineLaws
pub mod ReadLaws
pub mod WorkedRows
pub mod DemoQuery
