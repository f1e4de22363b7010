pub mod Bits
pub mod Serials
