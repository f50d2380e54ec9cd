mod Standing
mod Wholes
