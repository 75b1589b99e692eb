-- A watch as words that a caller lends (docs/REFERENCE.md, W15). To be believed: Codes, what an answer says as a number, and Ranges, the entries on a range and one call behind the other. Of all else sheet's Demands say what comes
-- of it: State and Calls mirror the code, and say what happens on words that no call ever gave.
pub mod State
pub mod Calls
pub mod Codes
pub mod Ranges
