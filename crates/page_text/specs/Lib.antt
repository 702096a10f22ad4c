pub mod Escaped
pub mod Figures
pub mod FileNames
pub mod Formulas
pub mod Shown
pub mod Styled
