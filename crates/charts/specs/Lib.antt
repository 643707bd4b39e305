pub mod Entries
pub mod Charts
pub mod Leads
pub mod Numbers
pub mod Numbered
