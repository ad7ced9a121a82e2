-- Scripts, and look-ups in them.
pub mod Limits
pub mod Endings
pub mod Statements
pub mod Questions
pub mod Table
pub mod Scripts
pub mod Progress
pub mod Jobs
