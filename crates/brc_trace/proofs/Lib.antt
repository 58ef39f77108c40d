mod Gone
mod Lines
mod MarkChanges
mod MarkRows
mod Naming
mod Showing
mod Traces
mod Writing
