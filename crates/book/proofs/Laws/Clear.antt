pub mod ClearEffectLaws
pub mod ClearedLaws
pub mod SweepLaws
pub mod ClearCheckLaws
pub mod NothingMoreLaws
