pub mod Answers
pub mod Pieces
pub mod Serving
pub mod Turns
pub mod Log
