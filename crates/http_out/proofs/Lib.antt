mod Joins
mod Told
