pub mod Topics
