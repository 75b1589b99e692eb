-- The laws of masks.
-- the bits of what is made by and, or, exclusive or and shifts
pub mod BitLaws
-- a word passes exactly where `(word ^ want) & look` is 0; the definition read wire by wire
pub mod ByWires
-- the masks of literals are passed by the words that meet them, and are compatible where one word meets both
pub mod Masks
