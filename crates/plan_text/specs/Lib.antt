pub mod Keywords
pub mod Grammar
pub mod Said
pub mod Outcome
