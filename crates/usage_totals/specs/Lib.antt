pub mod Greatest
pub mod Repeats
pub mod RepeatsSoFar
pub mod SoFar
pub mod Totals
