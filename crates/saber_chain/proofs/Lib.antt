mod Settling
mod Both
