-- To be believed: of Watches `shown_outcome` and of Monitors `refused_as`, what an answer of `open` says, and of Laying `code_of` and `row_word`, a row as a word. `watch_of` is
-- believed by name alone: what a watch answers is said in sheet's Demands. All else says what the inner functions have and promise.
pub mod Seen
pub mod Cells
pub mod Misreads
pub mod Reads
pub mod Conditions
pub mod NamesFound
pub mod Picks
pub mod Tasks
pub mod Written
pub mod Expressions
pub mod Scopes
pub mod Limits
pub mod Defined
pub mod Laying
pub mod Counted
pub mod Parts
pub mod Monitors
pub mod Statements
pub mod Watches
