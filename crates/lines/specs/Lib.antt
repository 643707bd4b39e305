pub mod Spelling
pub mod Parts
pub mod Reading
pub mod Writing
pub mod Logging
