mod Leading
mod Readying
mod Following
mod Showing
