-- What rule texts, words and calls mean, in the order of docs/REFERENCE.md. Begin with Fit. These are to be believed, some in part, as docs/TRUST.md says: of Reading the
-- numbers that a text at fault gets at a byte, of Opening what is answered (Opened, as_opened, Counts), of Table the rows.
pub mod Lists
pub mod Answers
pub mod Expression
pub mod Names
pub mod Grammar
pub mod Reading
pub mod Viable
pub mod Shape
pub mod Opening
pub mod Acceptance
pub mod Table
pub mod Numbered
pub mod Fit
pub mod Touched
pub mod Totals
pub mod Limits
pub mod Calls
pub mod Sheet
-- sheets of texts and traces, which the definitions above are computed to give
pub mod Examples
-- How the rules are tested and how code may do it: nothing here has to be believed, since proofs tie it to the above.
pub mod ShapeTests
pub mod Positions
pub mod RowWalk
pub mod Summary
