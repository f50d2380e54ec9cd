mod Either
mod Known
mod Moving
mod InTheWay
mod Effects
mod Telling
mod Settling
mod Answering
mod Sending
mod Fates
mod Events
mod Taking
mod Cells
mod Giving
mod Restarted
pub mod Granting
pub mod Running
