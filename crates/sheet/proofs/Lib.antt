-- The laws behind the printed sheet.
-- the lines that the watch of a text prints are its sheet, for every text and records
mod Printed
-- how many bytes a line and a sheet can have
mod Lengths
-- a run over records, by the loop and branches of the code
mod RunSteps
-- the sheet put together from its lines, in one pass or two
mod SheetSteps
-- digits and bytes stored behind one another
mod PageSteps
-- each line from its pieces
mod LineSteps
-- the lines at the foot, by the loops of the code
mod FootSteps
-- the kept line of a good tick: laid out, counted on, and given its word
mod LaidSteps
-- however a trace is cut, `begin`, the runs and `finish` print the sheet of the whole
pub mod Pieces
-- the demands on the line watch as statements, each with its citation: read this first
pub mod Demands
