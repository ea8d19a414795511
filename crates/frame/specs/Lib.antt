pub mod Words
pub mod Faults
pub mod Datagrams
pub mod Headers
pub mod Judging
pub mod Areas
pub mod Reading
