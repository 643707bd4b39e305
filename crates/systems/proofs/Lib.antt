pub mod Lowest
pub mod Judged
