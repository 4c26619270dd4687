-- Laws of what start and finish give.
pub mod GainLaws
pub mod GivingLaws
