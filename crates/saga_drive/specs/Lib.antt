-- A coordinator that is driven by requests.
pub mod Verbs
pub mod Fields
pub mod Attempts
pub mod Openings
pub mod Requests
pub mod Plain
pub mod Replies
pub mod Happenings
pub mod Tellings
pub mod Room
pub mod Starts
pub mod Many
pub mod Answers
pub mod Restarts
pub mod Drops
pub mod Laws
