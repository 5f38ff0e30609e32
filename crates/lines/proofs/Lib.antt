pub mod ReadingLaws
pub mod PuttingLaws
pub mod AnswerLaws
pub mod StepLaws
pub mod EveryLineHolds
pub mod TranscriptHolds
