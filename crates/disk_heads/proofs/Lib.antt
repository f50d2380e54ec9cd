mod Taking
mod Told
mod Next
mod Ending
