mod Beginning
mod Prefixes
mod Stepping
mod Joining
