-- What goes over an edge: the words that the promises use.
pub mod Over
