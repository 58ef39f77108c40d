mod Scanning
mod Exits
