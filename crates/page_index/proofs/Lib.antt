pub mod CallerLemmas
mod Leading
mod Orders
