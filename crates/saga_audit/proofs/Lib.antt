-- Lemmas on links, on a row that follows one saga, on groups of sagas, and on answers.
pub mod ChainLemmas
pub mod RowLemmas
pub mod SagaLemmas
pub mod GroupLemmas
pub mod AnswerLemmas
