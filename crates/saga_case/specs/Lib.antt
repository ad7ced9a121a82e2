-- Cases, costs, sets of steps, and right answers.
pub mod States
pub mod Amounts
pub mod Limits
pub mod Prices
pub mod Situation
pub mod Faults
pub mod Terms
pub mod Flow
pub mod Right
pub mod Free
pub mod Members
pub mod Laws
