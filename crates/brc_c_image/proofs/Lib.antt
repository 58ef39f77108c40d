mod Listed
mod Outlined
