-- Laws of first offers.
pub mod StartLaws
