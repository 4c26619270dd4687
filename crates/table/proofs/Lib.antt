-- Laws that every reader of tables may cite.
pub mod Reading
pub mod Incoming
