-- The lines of a text, readings of parts of a text, and the result of a read.
pub mod Lines
pub mod Readings
pub mod More
