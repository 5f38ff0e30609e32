pub mod OfferChainLaws
pub mod OfferCheckLaws
pub mod OfferFitLaws
pub mod OfferedLaws
