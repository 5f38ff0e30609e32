pub mod PlaceLaws
pub mod RangeFacts
pub mod TestLaws
pub mod WordLaws
pub mod RunLaws
pub mod KeptLaws
