-- Lemmas of the order.
pub mod Chains
mod BitLemmas
mod ListLemmas
mod TopologicalLemmas
mod RankLemmas
mod TransitiveLemmas
mod ClosedLemmas
pub mod LawLemmas
