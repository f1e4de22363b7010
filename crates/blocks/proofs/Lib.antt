pub mod PartLaws
pub mod LaidLaws
pub mod TwoSheets
pub mod PackedLaws
pub mod IndexedLaws
