-- What the benchmark's functions answer.
pub mod Packed
