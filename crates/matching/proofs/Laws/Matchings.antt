pub mod LeftByLaws
pub mod MostLaws
pub mod ElsewhereLaws
pub mod WholeLaws
