-- The order of the steps by their needs.
pub mod Shape
pub mod TopologicalOrder
pub mod Rank
pub mod Bits
pub mod TransitiveClosure
pub mod Laws
