pub mod Numbered
pub mod Order
pub mod Records
pub mod Commits
pub mod Ledgers
pub mod Effects
pub mod Reports
pub mod Laws
