-- Ends as rows of the offer list, and the rules on choices said of them.
pub mod Seating
