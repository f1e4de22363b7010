pub mod Heads
pub mod Tables
pub mod Reading
pub mod Whole
