-- Lemmas that belong to no one function, and the theorem: what judge answers is what the rules say.
-- a step of the walk over rows, by the row's kind
pub mod ByKind
-- sets of letters as words, letter by letter
pub mod Bits
-- the lowest number that passes a test, number by number
pub mod Lowest
-- the same 64 numbers at a time
pub mod Blocks
-- the answers of rule 11 and then rule 12
pub mod Answered
-- over rows that hold an expression the walk makes what it makes of the expression
pub mod Walked
-- rule 11: what is made of an expression tells whether a letter is an open end
pub mod EndsRight
-- rule 12: what is made of an expression tells whether letters that pass two tests stand side by side
pub mod SidesRight
-- what `judge` answers of rows that hold a monitor is what rules 11 and 12 say of it
pub mod Right
-- rows laid out hold their expression, whatever is written behind them
pub mod Laid
