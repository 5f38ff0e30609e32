pub mod CancelLaws
