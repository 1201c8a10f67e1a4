mod Commands
mod Ends
mod Left
mod Counted
mod Seeds
mod Compared
