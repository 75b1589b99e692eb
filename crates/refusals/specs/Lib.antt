-- The numbers of refusals, once for records, tokens and rule texts, and the refusals of the code that have them.
pub mod Numbers
pub mod Refusals
