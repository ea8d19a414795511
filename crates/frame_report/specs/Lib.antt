pub mod Dissection
pub mod Reports
pub mod Rewriting
