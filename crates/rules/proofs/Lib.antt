-- What follows from the definitions.
-- the numbers of refusals in answers
pub mod Misreads
-- looking for a name from cell to cell
pub mod Lookup
-- reading on from a position, by the token that stands there
pub mod Stepping
-- numbers whose bits are all ones
pub mod Numbers
-- writing words behind those in use leaves these as they are
pub mod Put
-- what words stand for stays while more words are written
pub mod Kept
-- a condition with literals more: its masks, and its store tests counted
pub mod Tested
-- a name of a kind that is wanted, or refusal 4
pub mod Picking
-- what is expected to be a number, which may be too large: refusal 6
pub mod OnNumber
-- reading one literal, each function by its ways out
pub mod LiteralSteps
-- laws of what every function of the reader promises: one behind the other, and refusals handed on
pub mod TaskLaws
-- reading the writes of a letter
pub mod WriteSteps
-- a name that must be new: refusals 5, 6 and 7 in their order, or the name
pub mod NewNames
-- `[h:0]` behind a name, or nothing
pub mod Widths
-- an input or a store more: its cell, and what is declared then
pub mod Declaring
-- a define or a production more, whatever its body: its name, its body, its cell
pub mod Defining
-- a letter's store tests and writes as two numbers each, in the slots of a watch
pub mod Slots
-- rows and letters stored behind those of another part
pub mod Overlay
-- what stands at a node is laid: a letter, a star, or an operator with its operands
pub mod Placing
-- the rows that are stored are those of meaning's `Table.laid`
pub mod TableRows
-- letters, 9 and 10 of two parts together, from those of each
pub mod Summing
-- the parts of an expression among the words: how each is made, and that it stays
pub mod PartLaws
-- the literals of a define and the expression of a production, up to the `;`
pub mod Bodies
-- reading a letter: literals, writes, and its own words
pub mod LetterSteps
-- an operand joined to what stands before it on its level
pub mod Operating
-- rows and letters stand where they were stored, so that the arrays hold their expression
pub mod RowsStand
-- monitors listed one by one
pub mod Listing
-- number 8: letters summed monitor by monitor, up to the first that passes 256
pub mod LongRun
-- 9 and 10 of one monitor by what is known of its production, 11 and 12 by its rows
pub mod OneMonitor
-- the monitors one behind the other: all stored, or the first refusal, as `open_program` answers
pub mod AllMonitors
-- what follows an operand: `*`, an operator, or the end of its level
pub mod Turning
-- operands and whole expressions, which call each other on what a parenthesis holds
pub mod Expressing
-- a new watch's marks, places and store values; its tables are those of the numbered monitors
pub mod Starting
-- the names of the monitor statement, and the end behind it
pub mod MonitorSteps
-- a limit more: the production that it names, its numbers, and what is declared then
pub mod Limiting
-- statements one after the other from the beginning of a text
pub mod StatementSteps
-- which limits count each letter, by the walk over the monitors
pub mod Counting
-- the numbers of the productions that limits count are small
pub mod LimitNumbers
-- the same as a watch has it, and the limits' windows
pub mod LimitTables
-- a text is opened as `open_text` says, answer and watch
pub mod TextOpened
-- what an opened watch has for its limits
pub mod Limited
