pub mod FirstTexts
pub mod Payees
pub mod Territories
pub mod Titles
