pub mod Exclusive
pub mod Options
pub mod Judged
pub mod Owned
