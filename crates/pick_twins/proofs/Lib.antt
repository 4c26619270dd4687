-- Laws of ends that change places, and of the sets in which the code collects them.
pub mod Swapping
pub mod Telling
