mod Tokens
mod Spelling
mod Ports
