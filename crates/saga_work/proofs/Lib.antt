-- Lemmas on workers.
mod GatherLemmas
mod AddedLemmas
mod AskedLemmas
mod RunLemmas
mod FaultLemmas
