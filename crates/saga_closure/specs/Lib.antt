-- The network of a case over its definition's lists, searches in it, and a maximum flow.
pub mod CaseNet
pub mod Capacities
pub mod Bits
pub mod Nets
pub mod Outs
pub mod Links
pub mod Layers
pub mod Rows
pub mod Found
pub mod Paths
pub mod Apart
pub mod Chains
pub mod Largest
