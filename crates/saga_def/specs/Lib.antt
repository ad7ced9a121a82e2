-- The definition of a saga.
pub mod Limits
pub mod Contents
pub mod Order
pub mod Rules
pub mod Groups
pub mod Adjacency
pub mod Neighbours
pub mod Sound
pub mod Faults
pub mod Peeling
pub mod Same
pub mod SameLaws
pub mod Laws
