pub mod OverlapLaws
pub mod PairLaws
