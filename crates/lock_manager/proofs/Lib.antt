mod Scans
mod Rooms
mod Places
mod Distinct
mod Tallies
mod Releases
mod Resets
mod Free
