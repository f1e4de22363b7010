pub mod Sum
pub mod Layer
pub mod Change
