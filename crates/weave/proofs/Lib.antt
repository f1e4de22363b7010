pub mod Obeys
pub mod Among
pub mod Places
pub mod OnlySet
pub mod VersionSteps
pub mod Held
pub mod Walks
pub mod Writes
