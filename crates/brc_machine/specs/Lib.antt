pub mod Storage
pub mod FirstWords
pub mod Agendas
pub mod Sights
pub mod MachineTallies
pub mod OpenCalls
pub mod Items
