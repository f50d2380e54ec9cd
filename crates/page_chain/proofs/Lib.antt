mod Others
mod Order
mod Redoes
