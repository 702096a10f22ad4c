pub mod Exported
pub mod Imported
pub mod Mapped
pub mod SoFar
pub mod SummaryText
pub mod Tallies
