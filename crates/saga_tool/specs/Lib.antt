-- The responses of the program to words and texts.
pub mod Parts
pub mod Limits
pub mod Forms
pub mod Suited
pub mod Given
pub mod Command
pub mod Responses
pub mod Input
pub mod Outside
pub mod Records
pub mod Program
