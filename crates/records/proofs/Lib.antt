pub mod Cuts
pub mod SidLaws
pub mod ListLaws
