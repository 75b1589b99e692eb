-- Lemmas that belong to no one function.
-- how many bits of a map stand
pub mod Bits
-- two different constructors are not equal
pub mod Clash
-- laws of `digit` and `number`, for digits of any width
pub mod Digits
-- a record is torn, idle or the end exactly where R5, R6 and R4 say, and no byte behind it is looked at
pub mod Exact
-- a list put into a lent one, where it fits and where it does not
pub mod Lending
-- a part of a list lent, and an element stored
pub mod Lists
-- the bytes given put into the word before, byte by byte
pub mod Merge
-- what holds in the loops over whole traces
pub mod Passes
-- one record read, in the steps of the code
pub mod Reading
-- one record there and back, and no other record reads as its word
pub mod RoundTrip
-- whole traces there and back (`read-write`), and no two that read alike (`read-unique`)
pub mod Traces
-- one record written: the map of the changed bytes, then these bytes
pub mod Writing
