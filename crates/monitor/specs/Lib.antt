-- What a tick does, over any numbers that a watch may hold (docs/REFERENCE.md, W). To be believed: of Calls `watch_after_call`, `replies_of`, `answers_of` and `watch_after_all`, one call behind the other, and `Held`, what a watch then holds; Visits, with the walk
-- that it counts the calls of, for what a tick costs; and Shown, what an answer of `look` or `take` says. `reply_of`, `touched_for` and `watch_after` are believed by name alone, since sheet's Demands say what comes of them; Letters, Threads, Tally, Walk, Ticks and Limited mirror the code, and `thread_rows` of Threads is what proofs compare the code's numbers with.
pub mod Letters
pub mod Threads
pub mod Tally
pub mod Walk
pub mod Ticks
pub mod Limited
pub mod Visits
pub mod Calls
pub mod Shown
