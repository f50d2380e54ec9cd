mod Moves
mod Runs
mod Failing
mod Commands
mod Puts
mod Disk
mod Lasts
mod Events
