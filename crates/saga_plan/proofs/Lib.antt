-- Lemmas of the planner.
pub mod CutCost
pub mod FlowLemmas
pub mod PlanLemmas
pub mod LawLemmas
