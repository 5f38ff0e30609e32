pub mod EachLaws
pub mod SumLaws
pub mod RemainLaws
pub mod OrderingLaws
