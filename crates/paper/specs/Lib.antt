-- The paper as definitions. Lists, Answers, Limits and Bytes are the words that the others use; Table, Marking, Offers, Choices ("Acceptable choices"),
-- Operations and Program (of "The small event") follow its headings. Read them in this order.
-- `abbrev` and `unfoldable` mean the same to a reader: the left side is the right side. They differ in proofs alone, which see through an abbrev
-- unasked and through an unfoldable where they name it.
-- In a `do`, a line `x ← a` hands a's value on to the lines below it, by one of two `>>=`: of answers (Answers) the first refusal is the whole answer; of
-- readers (Bytes) each line reads on from where the one above it stopped, and bytes that don't fit give none.
pub mod Lists
pub mod Answers
pub mod Limits
pub mod Bytes
pub mod Table
pub mod Marking
pub mod Offers
pub mod Choices
pub mod Operations
pub mod Program
