pub mod Paint
pub mod Report
