pub mod Header
pub mod Words
