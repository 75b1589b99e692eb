-- What asking and leaving the rows of a watch touches, as the code finds it. Nothing here has to be believed: monitor's proofs tie it to the definition of the rows touched (docs/REFERENCE.md, F23 to F26).
pub mod Counts
