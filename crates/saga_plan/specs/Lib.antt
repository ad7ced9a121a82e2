-- The network of a case, and the contract of the planner.
pub mod Planned
pub mod Making
pub mod Laws
