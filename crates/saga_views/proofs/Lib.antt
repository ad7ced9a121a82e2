-- Lemmas of views.
pub mod RangeLemmas
pub mod ShownLemmas
pub mod ReadyLemmas
pub mod ListLemmas
