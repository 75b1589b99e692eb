-- The laws of a watch as words.
-- turns of the loops that read and store the state
mod StateSteps
-- what a good tick leaves is read back part by part
mod StateLaws
-- what a call comes to, by what the functions that it calls answer
mod CallSteps
-- words that stand for a watch: the same answers, and so on after each take
mod Tied
-- after opening and any calls the words stand for the watch
pub mod Reached
-- through a range that C lends
pub mod Told
-- a range that is too short for a watch, and one that is not
pub mod RangeSteps
