pub mod Taking
pub mod Knowing
pub mod Fronts
pub mod Firsts
mod Going
mod Passes
mod Joined
mod Summing
mod Seeking
mod Agreeing
mod Ranging
mod Rangeon
mod Members
pub mod Asking
