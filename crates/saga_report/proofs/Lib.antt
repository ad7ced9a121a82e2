-- Lemmas of reports.
pub mod StateLemmas
pub mod RangeLemmas
pub mod EntryLemmas
pub mod StoryLemmas
pub mod FollowLemmas
pub mod ReportLemmas
pub mod PhaseLemmas
