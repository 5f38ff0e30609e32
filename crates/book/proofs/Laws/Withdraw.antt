pub mod WithdrawLaws
pub mod OfferPlaceLaws
