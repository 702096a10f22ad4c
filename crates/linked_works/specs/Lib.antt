pub mod Submitters
pub mod Linked
pub mod WorksTable
pub mod SubmitterPayees
pub mod ManyPayees
pub mod PassedOver
pub mod Rows
