pub mod WrittenNet
