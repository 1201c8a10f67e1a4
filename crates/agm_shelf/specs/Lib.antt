pub mod Shelf
pub mod Entry
pub mod Turn
pub mod FilesShelf
pub mod StdSink
pub mod Ends
pub mod MemoryShelf
pub mod MemorySink
