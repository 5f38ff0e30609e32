pub mod SoundLaws
pub mod FormedLaws
pub mod FitLaws
pub mod OpenLaws
pub mod DeclareLaws
pub mod RangedLaws
