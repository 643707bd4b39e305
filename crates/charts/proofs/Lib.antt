pub mod Valid
mod Followed
