pub mod Leasts
pub mod Tried
pub mod Agreement
pub mod Firsts
pub mod OneRuns
pub mod Chained
pub mod Fours
