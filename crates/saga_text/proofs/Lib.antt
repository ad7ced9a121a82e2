pub mod TreeLemmas
pub mod NumberLemmas
pub mod FaultLemmas
pub mod AnswerLemmas
