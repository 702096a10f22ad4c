pub mod Layout
pub mod Seats
pub mod Rule
pub mod Tells
pub mod Asks
pub mod Calls
pub mod Views
