-- Lemmas on bit sets, on the tables of a row and of several rows, and on a row that follows its saga.
mod BitSetLemmas
pub mod RowLemmas
mod RowsLemmas
pub mod FollowLemmas
