pub mod Answer
pub mod Grammar
pub mod Plain
pub mod Reading
pub mod View
