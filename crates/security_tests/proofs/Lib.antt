mod Facts
mod Inputs
mod Masked
mod OneShare
mod Told
