-- Lemmas of drawings.
pub mod RangeLemmas
pub mod MarkLemmas
pub mod NameLemmas
pub mod DrawingLemmas
