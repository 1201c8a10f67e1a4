pub mod Digits
pub mod WrittenTokens
pub mod LaidOut
pub mod Lists
pub mod FormsAgain
pub mod ItemsAgain
pub mod ModulesAgain
