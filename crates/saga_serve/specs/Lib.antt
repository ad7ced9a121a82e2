-- The result of a drive, for every operating system.
pub mod Limits
pub mod Outside
pub mod Logs
pub mod Shown
pub mod Inputs
pub mod Shelves
pub mod Conversations
pub mod Drives
pub mod Rests
pub mod Kinds
