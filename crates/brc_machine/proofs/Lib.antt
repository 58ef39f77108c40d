pub mod Storing
pub mod FirstWords
pub mod Arguments
pub mod OwnedRows
pub mod Agendas
pub mod MachineTallying
