pub mod Lowest
pub mod Systems
pub mod Outcomes
pub mod Judging
