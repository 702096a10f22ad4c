pub mod FirstFound
pub mod FirstSubmitted
