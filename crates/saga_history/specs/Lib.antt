-- Histories, their rules, and their properties.
pub mod Changes
pub mod States
pub mod Turns
pub mod Rules
pub mod Tasks
pub mod Merges
pub mod Headline
pub mod Tallies
pub mod Counts
pub mod Progress
pub mod Plans
pub mod Parts
pub mod Follower
pub mod Laws
pub mod Deciders
pub mod Bounds
