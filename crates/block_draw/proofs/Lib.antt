pub mod Counts
mod Openings
mod Draws
mod Gathers
