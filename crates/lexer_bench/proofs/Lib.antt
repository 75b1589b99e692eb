-- The lemmas of the benchmark's function.
-- the sum over the tokens of a text, token by token
pub mod Sums
