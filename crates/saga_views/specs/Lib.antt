-- Read-only views of a book.
pub mod Limits
pub mod Words
pub mod Tasks
pub mod Busy
pub mod Ready
pub mod Phases
pub mod Lists
pub mod Status
pub mod Shown
