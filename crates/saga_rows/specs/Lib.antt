-- Rows, and the properties of their tables.
pub mod Limits
pub mod BitSet
pub mod Row
pub mod Tables
pub mod Rows
pub mod Follows
