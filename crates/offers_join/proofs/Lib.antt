-- Laws of the search at a join, a module for each subject.
pub mod Joins
pub mod Searches
pub mod Words
pub mod Meetings
