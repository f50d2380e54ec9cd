mod Spots
mod Scans
mod Lists
