pub mod Indices
pub mod Reciprocal
pub mod FewNumbers
pub mod FirstLists
pub mod FirstListWords
