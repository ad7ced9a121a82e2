pub mod KeptLemmas
pub mod FaultLemmas
pub mod FormLemmas
pub mod LawLemmas
