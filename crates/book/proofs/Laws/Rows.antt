pub mod BookingLaws
pub mod FigureLaws
pub mod SmallLaws
pub mod TradeLaws
pub mod ExchangedLaws
