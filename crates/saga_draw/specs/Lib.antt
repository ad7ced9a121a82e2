-- Drawings of definitions.
pub mod Marks
pub mod Lines
pub mod Drawings
