-- Workers: what they add to the books, and the result of a complete run.
pub mod Answered
pub mod Added
pub mod Asked
pub mod Faults
pub mod Words
