-- The texts of cases and answers.
pub mod Kept
pub mod Answers
pub mod Cases
pub mod WrittenCases
pub mod Reads
pub mod Laws
