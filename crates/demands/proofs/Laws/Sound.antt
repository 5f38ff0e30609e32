pub mod CallLaws
pub mod KeepLaws
pub mod OfferLaws
pub mod SoundAfter
