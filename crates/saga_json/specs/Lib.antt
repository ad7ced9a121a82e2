-- JSON texts, and readings of their objects.
pub mod Reads
pub mod Faults
pub mod Trees
pub mod Fields
pub mod Keys
pub mod Texts
