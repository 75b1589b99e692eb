-- What follows from the definitions. Watch has the headline: word by word the verdict of the machine of active positions is that of the monitors. `monitor` carries it to calls.
-- facts on lists that the others share: `each`, membership, tests
pub mod ListLaws
-- the runs on a tick and more are the runs on that tick alone, each followed by what follows its letters
pub mod Step
-- a part is left at once only where it is nullable
pub mod Entering
-- in a monitor that keeps 10, 11 and 12 all runs from one letter over one tick are equal
pub mod OneWay
-- the threads of an expression and the letters that a part has of its own
pub mod Threads
-- over one tick the machine goes as the runs do, and over many; its positions are the letters of the last tick
pub mod Active
-- for a monitor that keeps the rules the machine goes on exactly where the ticks fit, and its positions are the letters met
pub mod Monitor
-- only which letters are active counts, not how often or in which order
pub mod Sets
-- a thread has one active letter at most, so keeping busy threads shut is what F17 asks
pub mod Occupied
-- what F17 takes for granted of a start: one letter a tick, to its last, and none behind that
pub mod Requires
-- on its runs: behind its last letter a start requires none, behind any other one
pub mod StartEnds
-- word by word the machine's verdict is that of `Fit`, and its positions, last word and store values are those of the history
pub mod Watch
-- literals agree bit by bit exactly where a word meets them all
pub mod Bits
-- `renumbered` numbers letters in reading order, and changes neither size nor rows
pub mod Numbering
-- each list of letters at fault has exactly the letters of which the rule's statement holds
pub mod Rules
-- monitors that the tests let through keep the rules, so the watch is right
pub mod Accept
-- `shape` answers with a rule exactly at the lowest letter at fault, where the rules before it find none
pub mod Shaped
-- monitors that keep rule 10 and have at most 256 letters have fewer than 1,024 rows
pub mod RowCount
-- `e*` and a monitor are as F9 and F13 say, whatever the bound on rounds; what fits an accepted monitor fits it up to each of its words
pub mod Prefix
-- where the walk over rows stays within its count a greater count changes nothing
pub mod Ends
-- over rows that hold a monitor the walk is the machine's step, within four calls for each row
pub mod Walk
-- the replies that the meaning fixes are the right ones, no others are, and machines that judge and go on alike give the same
pub mod Calls
-- what holds of every outcome of a choice, of a name's kind, of a fault, holds of the step
pub mod Steps
-- all that can come of judging a token, by what was expected and what the token is
pub mod Outcomes
-- reading stops at the end and at a knot; from a position on it is judging the token there and reading on behind it
pub mod Stops
-- what 8, 9 and 10 say of a monitor follows from an expression's parts, without copying
pub mod Summary
-- a monitor whose letters are numbered from k on goes, keeps and writes as the one numbered from 0
pub mod Shifted
-- the rows laid out are one for each letter and each operator, no more, and hold the monitors
pub mod Rows
-- a refusal names the token that is judged, or with 6 the wide wire before it, and is kept whatever stands behind
pub mod Blame
-- what is read lies within its wires and stores, its numbers fit, and a letter has two store tests and two writes at most
pub mod Within
-- what the grammar derives is read
pub mod GrammarReads
-- what is read is derived by the grammar
pub mod GrammarDerives
-- a text is read as a program exactly if it is short and that program by the grammar, and it is one at most
pub mod GrammarExact
-- where fewer than 128 names are declared some name of seven letters is free
pub mod FreeName
-- what reading keeps: every input has a wire, a name that is being declared is free, all names are ones that a text can have
pub mod Sound
-- from each state that reading can be in, the tokens that end the text, where names and limits leave any
pub mod Finish
-- tokens that can be followed to a text need what `Spare` asks; where there is enough of all it is there
pub mod Spared
-- a text is refused exactly at the token with which no text of the grammar can begin, behind tokens that can begin one
pub mod Viable
-- the bytes before a refused token can be followed by bytes to a text of the grammar
pub mod Completed
-- an accepted text keeps the rules, and has few letters and limits
pub mod Openings
-- the shared examples hold, computed from the texts' bytes; no words at all fit every monitor
pub mod Examples
-- opening accepts the acceptable texts, refuses the other texts of the grammar with 8 to 12 as stated, and all others by reading
pub mod Exactly
-- what a tick touches, counted without branches
pub mod Counting
-- what a tick touches, told by the branches, is what the letters met at the tick before do
pub mod Touching
-- the rows touched, each counted once, are a tally over the expression
pub mod Tally
-- with one letter met in each thread at most, that is a sum of one number a letter met and one a thread asked
pub mod Levels
-- the sums depend on the letters met alone, not on where their numbers begin
pub mod CountingLaws
-- so the rows touched are counted from where the machine stands, and are at most twice the rows
pub mod TouchedCount
-- what walks from the letters met may spend, each from its own, is at most three times the touches of the tick
pub mod Spent
-- how often letters were met: one tick more, and the same sum over letters and over ticks
pub mod Totals
-- where the words so far fit every limit, the next tick alone decides (`limits-next`)
pub mod Limits
-- a text has at most 32 monitors and 8 limits, each limit of a stretch longer than its number of ticks
pub mod Bounded
