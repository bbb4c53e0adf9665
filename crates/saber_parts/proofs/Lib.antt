mod Changed
mod Continuing
mod Cutting
mod Dropping
mod Ranged
mod Storing
mod Entering
mod Taken
