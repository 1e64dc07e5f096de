pub mod TokenLaws
pub mod ReadBack
