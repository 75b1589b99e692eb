-- The laws behind `counts_of`.
-- the code, by its branches and loops
mod CountSteps
