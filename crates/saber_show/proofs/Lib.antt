pub mod Shapes
pub mod SpellLemmas
pub mod RestLemmas
