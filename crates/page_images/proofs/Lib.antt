mod Fronts
mod Kept_fronts
mod Names
mod Parts
mod Renewals
mod Written
