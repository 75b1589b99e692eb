-- What `judge` answers on any table, as the code finds it, and what a table holds. Nothing here has to be believed: proofs/Right.antt ties it to the meaning of rules 11 and 12
-- (docs/REFERENCE.md, S12 and S13).
pub mod Walk
pub mod Sets
pub mod Ends
pub mod Sides
pub mod Lowest
pub mod Judge
pub mod Held
