pub mod Notes
pub mod Lines
pub mod ManyNotes
pub mod Reports
pub mod Told
