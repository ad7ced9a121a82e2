-- Lemmas of the flow of a case.
pub mod ArcLemmas
pub mod PriceLemmas
pub mod ArcCases
pub mod RoomLemmas
pub mod StartLemmas
pub mod NetLemmas
pub mod SearchLemmas
pub mod NeighbourLemmas
pub mod VisitLemmas
pub mod BitLemmas
pub mod RowLemmas
pub mod PathLemmas
pub mod ApartLemmas
pub mod RoundLemmas
pub mod ReachLemmas
pub mod ChainLemmas
