-- Bytes, signs and the tokens of a text (docs/REFERENCE.md, T): to be believed.
pub mod Bytes
pub mod Signs
pub mod Tokens
-- What the list of reserved words given to the token reader, and its answers, stand for (T4, T10): to be believed where that reader is used by itself.
pub mod Shown
-- The class of each byte (T8), which its own contract ties to `Bytes`.
pub mod Classes
-- What the contracts of the inner functions cite.
pub mod Inner
