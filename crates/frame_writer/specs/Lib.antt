pub mod Adding
pub mod Encoding
pub mod Faults
pub mod Frames
pub mod Writers
