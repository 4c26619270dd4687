-- Laws of demands, and of ends that don't go together.
pub mod Demands
pub mod Crowding
