-- The laws of windows.
-- the code, by its branches and loops
mod Steps
-- what the array keeps, tick after tick
pub mod Right
