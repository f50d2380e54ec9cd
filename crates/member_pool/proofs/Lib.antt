mod Firsts
mod Fronts
mod Keeping
mod Listing
mod Masks
mod Tallies
