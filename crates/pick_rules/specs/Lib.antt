-- What the net of the rules promises.
pub mod Rules
