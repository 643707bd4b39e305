pub mod Columns
pub mod Buffers
pub mod Lines
pub mod Readings
pub mod Pieces
pub mod Logs
