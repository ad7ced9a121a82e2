-- Lines, and readings.
pub mod LineLemmas
pub mod ReadingLemmas
