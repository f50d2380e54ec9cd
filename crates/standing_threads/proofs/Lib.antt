mod Keeping
mod Rowed
