-- What the order of ends promises.
pub mod Order
