mod Apart
mod Cancelling
mod Spanned
mod Tallied
mod Walking
