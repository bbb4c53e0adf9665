pub mod Sharing
pub mod SharingLaws
pub mod Queries
pub mod Labors
pub mod Laws
pub mod Alone
pub mod Free
