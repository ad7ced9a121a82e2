pub mod ByKey
pub mod Counts
pub mod Lists
pub mod OneAnswer
pub mod Order
pub mod ReadLemmas
pub mod Records
pub mod Runs
