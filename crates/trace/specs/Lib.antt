-- What a wire record is and what reading and writing answer (docs/REFERENCE.md, R1 to R12): all of it is to be believed.
pub mod Answer
pub mod Record
pub mod Whole
pub mod Shown
