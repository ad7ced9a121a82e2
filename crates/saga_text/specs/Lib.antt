-- The contents of a definition file.
pub mod Trees
pub mod Kinds
pub mod Format
pub mod Faults
pub mod Drafts
pub mod Numbers
pub mod Limits
pub mod Reads
pub mod Laws
