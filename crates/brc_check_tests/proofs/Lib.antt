mod Callable
mod WorkedDuties
