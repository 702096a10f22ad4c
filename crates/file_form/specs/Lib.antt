pub mod Controls
pub mod Ends
pub mod Quotes
pub mod Shifted
pub mod SoFar
pub mod Types
