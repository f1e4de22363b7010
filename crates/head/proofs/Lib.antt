pub mod Ahead
pub mod Orders
pub mod Entries
pub mod Gathers
pub mod Wholes
pub mod Turns
