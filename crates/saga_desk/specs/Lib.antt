-- Desks: seats that work on shared books, and the receipts of their events.
pub mod Seat
pub mod Job
pub mod Desk
pub mod Effects
pub mod Told
pub mod Refusals
pub mod Merges
pub mod Agreement
pub mod Laws
pub mod Rests
pub mod Signs
pub mod Rounds
pub mod Finish
