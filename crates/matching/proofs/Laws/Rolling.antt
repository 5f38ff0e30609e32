pub mod CandidateLaws
pub mod CounterpartLaws
pub mod MeetingLaws
pub mod MetLaws
pub mod TurnLaws
pub mod RollingLaws
pub mod LeftOverLaws
pub mod RollingFigure
