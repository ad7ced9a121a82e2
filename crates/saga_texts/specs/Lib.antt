-- The commands of the program for texts.
pub mod Texts
pub mod Audits
pub mod Beside
pub mod Conclusions
pub mod Limits
pub mod Lines
pub mod Outputs
pub mod Runs
pub mod Shelves
