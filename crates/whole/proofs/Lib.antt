pub mod WholeLaws
pub mod TextBack
