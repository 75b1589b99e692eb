-- The laws of words.
-- a word's parts are the numbers that it was made of
pub mod Quads
