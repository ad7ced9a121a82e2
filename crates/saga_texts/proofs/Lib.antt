pub mod ListLemmas
pub mod RunLemmas
pub mod ShelfLemmas
mod AuditLemmas
mod BesideLemmas
