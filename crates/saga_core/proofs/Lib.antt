-- Lemmas on a book that grows by one event.
pub mod BookLemmas
pub mod SagaLemmas
mod OpenLemmas
mod NextLemmas
mod PhaseLemmas
pub mod LawLemmas
mod EndLemmas
mod ReplayLemmas
pub mod ReplayLawLemmas
