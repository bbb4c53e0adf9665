pub mod QueryLemmas
pub mod MadeLemmas
pub mod PartLemmas
pub mod LeftLemmas
pub mod ManyLemmas
pub mod TellLemmas
