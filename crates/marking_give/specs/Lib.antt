-- What start and finish give.
pub mod Giving
