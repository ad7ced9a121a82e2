-- The book: the state machine of many sagas.
pub mod Journal
pub mod Book
pub mod Saga
pub mod Refusals
pub mod Tasks
pub mod Laws
pub mod Replays
