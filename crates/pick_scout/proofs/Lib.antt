-- Laws of scouting.
pub mod Scouting
