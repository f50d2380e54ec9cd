mod Fronts
mod Giving
mod Images
mod Parts
