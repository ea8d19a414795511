pub mod Pairs
pub mod Spelled
pub mod Widths
