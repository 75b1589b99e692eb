-- The laws behind `look` and `take`.
-- what it says that a tick's numbers are those of a table's rows and of its letters
mod Coded
-- what may be remembered during a tick, and when an answer and the marks with it are right
mod Memory
-- the walk with a memory answers as the walk without, and marks just the letters of the way taken
mod MemoryLaws
-- the walk's functions, one law for each way out of each
mod WalkSteps
-- positions one after the other, of one monitor and of all: the marks are the letters of all ways, or the first monitor stuck is told
mod Going
-- the marks a good tick leaves are the positions kept, and the store values those that the letters met write
mod Moves
-- each monitor goes over its rows as its positions do in the meaning
mod Monitors
-- one step of a watch is one step of the meaning's machine: verdict, marks and store values
mod Watching
-- a list of calls on a watch is one on what moves in it, with 16, 17 and 15 decided as in the meaning
pub mod Replies
-- looks among takes: what they answer, and that they change nothing else
pub mod Looks
-- a letter's test and writes, by the branches of the code
mod LetterSteps
-- what does nothing for an unmarked letter goes on from the first marked one; the new marks
pub mod Marked
-- the thread of each letter, by the branches and the loop of the code
mod ThreadSteps
-- how many rows a tick touches, by the branches and the loops of the code
mod TallySteps
-- behind the last letter that writes nothing is written; the word of the tables that has the numbers of letters to be looked at
mod Writers
-- the rows shut at a tick are those of the threads that are busy
mod Shut
-- in the watch of an accepted text
mod ShutRows
-- each thread has at most one letter of its own marked
mod Single
-- a tick, by the loops and branches of the code
pub mod TickSteps
-- its limits, by the branches of the code
mod LimitSteps
-- how often letters were met, by the branches of the code
mod TotalSteps
-- a list that is stored in an array stands there
pub mod Stored
-- the block of words that a tick is lent: a word of it, and that of a watch (`layout-there`, `counted-there`)
pub mod Layouts
-- a program's monitors with letters numbered over all of them have the same watch
mod Numbered
-- the words of a watch's rows are those of the rows of meaning's table
mod RowWords
-- each letter's numbers stand at the letter's own index
mod LetterIndex
-- a watch's places are the rows of its letters
mod LetterRows
-- what stands in the watch of an accepted text, its table word for word (`table-right`)
pub mod Program
-- its letters' threads are those of its expressions (`thread-rows-right`), and from which letter to which one need look for them (`unthreaded-before`, `threaded-enough`)
pub mod ThreadRows
-- the places and costs of its rows are those of its expressions
mod CountRows
-- what is counted over the marks by them is the sums over the letters met and the threads asked
mod TouchedLetters
-- a watch's store values are the meaning's with zeros behind them
pub mod Padded
-- the literals, writes and first store values of an accepted text fit the watch
pub mod Readable
-- a letter's numbers test and write what the letter means
mod LetterTests
-- lists of numbers that are all at most n
pub mod Most
-- the marks of a newly opened watch are the monitors' starts
mod Starts
-- a good tick counts each letter met at it once, and no number outgrows its 32 bits; one number for each letter (`total-letters`)
pub mod LetterTotals
-- a tick's mask says which limits count it
mod LimitMasks
-- the windows of a watch count the ticks that its limits do, and name the limit that the meaning does
mod LimitWindows
-- every list of calls on the watch of an accepted text gets the replies that its meaning fixes (`calls-answered`)
pub mod Calls
-- and every take on it tells the number of rows that the definition says
pub mod TouchedRows
-- the calls that a walk makes over the rows of an expression are no more than it may spend there
mod VisitedRows
-- so the walk of a tick visits at most three times as many rows as the tick touches
pub mod Visited
