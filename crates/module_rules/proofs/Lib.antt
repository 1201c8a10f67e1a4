mod Tables
mod Declares
