-- The result of an audit, why events are refused, and how the auditor follows a history.
pub mod Words
pub mod Reasons
pub mod Groups
pub mod Joins
pub mod Chains
pub mod Decisions
pub mod Sagas
