pub mod Drawn
pub mod Seats
pub mod Rule
pub mod Steps
pub mod Views
pub mod Left
