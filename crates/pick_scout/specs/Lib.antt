-- What scouting promises.
pub mod Scouting
