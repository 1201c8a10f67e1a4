mod Tables
mod Spots
mod Joined
