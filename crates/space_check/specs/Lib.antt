pub mod Clauses
pub mod Judging
pub mod Verdicts
pub mod Laws
pub mod Scans
pub mod Tables
pub mod Telling
