-- What the search promises: nets of rules and the sets that pass them, and the bounds by which it prunes.
pub mod Net
pub mod Bounds
