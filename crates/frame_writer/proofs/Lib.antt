pub mod Again
pub mod Ends
pub mod Lists
pub mod Round
pub mod Steps
