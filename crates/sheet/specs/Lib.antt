-- What is printed, over any watch (docs/REFERENCE.md, P). To be believed: Pieces, how `begin`, the runs and `finish` are put together. Of Lines it takes `run_over` and `closing` by name alone.
pub mod Digits
pub mod Laid
pub mod Lines
pub mod Items
pub mod Pages
pub mod Kept
pub mod Moved
pub mod Runs
pub mod Pieces
