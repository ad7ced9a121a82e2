pub mod Accepted
pub mod Noted
pub mod Seated
