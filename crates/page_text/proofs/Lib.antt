pub mod Escaping
pub mod Figuring
pub mod Naming
pub mod Seeing
pub mod Styling
