pub mod TreeLemmas
pub mod KeyLemmas
pub mod TextLemmas
