pub mod Turning
mod Choices
mod Retaining
pub mod Keeping
pub mod Leaving
pub mod Stepping
pub mod Tries
pub mod MergeTries
pub mod MarkTries
mod Looks
pub mod Bearing
mod Asking
mod OwnRows
pub mod Handing
pub mod Borrowing
pub mod FewRows
