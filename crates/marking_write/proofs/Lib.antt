-- Laws of writing a marking.
pub mod WritingLaws
