-- Reports of histories.
pub mod Sagas
pub mod Lines
pub mod Tells
pub mod Views
pub mod Opened
pub mod Reports
