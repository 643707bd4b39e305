pub mod Lawful
pub mod Orders
pub mod Classes
pub mod Lawfuls
