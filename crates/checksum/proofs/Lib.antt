pub mod SumLaws
pub mod LayerLaws
pub mod ChangeLaws
