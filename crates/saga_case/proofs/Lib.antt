-- Sums, weak duality of flows and closed sets, and chains.
pub mod SumLemmas
pub mod ClosedLemmas
pub mod Duality
pub mod ChainLemmas
pub mod FreeLemmas
pub mod MemberLemmas
pub mod LawLemmas
