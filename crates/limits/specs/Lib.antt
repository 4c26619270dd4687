-- What the builders of the cases' tables are lent.
pub mod Rooms
