pub mod Outside
pub mod Feeds
pub mod MemFeeds
pub mod Memory
pub mod Files
pub mod Host
pub mod Outs
