-- Lemmas on desks.
pub mod MergeLemmas
pub mod RestLemmas
pub mod BridgeLemmas
mod StepLemmas
mod FinishLemmas
mod ServeLemmas
mod RoundLemmas
