-- Lemmas on chains of needs, on adjacency lists and neighbours, on the search for a cycle, and on the passes that look
-- for a double.
pub mod OrderLemmas
pub mod CycleLemmas
mod GroupLemmas
pub mod AdjacencyLemmas
pub mod NeighbourLemmas
mod SeenLemmas
mod PeelLemmas
mod RingLemmas
pub mod FirstLemmas
pub mod FaultLemmas
