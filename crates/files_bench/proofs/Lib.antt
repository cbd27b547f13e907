mod Fills
mod Writes
