pub mod FirstFault
pub mod Forms
pub mod Pieces
pub mod ReadOn
pub mod RowTable
pub mod Table
pub mod Walk
pub mod Written
