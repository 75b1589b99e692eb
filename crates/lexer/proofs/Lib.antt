-- The lexer's lemmas: the first group serves its functions, the second holds the laws of tokens, which Laws lists.
-- what follows from `&&`, `||`, `not`, a choice and the test of equality being true or false
pub mod Bools
-- what a test over all numbers below a bound computes holds at each of them
pub mod Every
-- the longest beginning of a text whose bytes pass a test: where it ends, how long it is, what it has
pub mod Runs
-- what the class of a byte says: white space, digit, letter or `_`
pub mod ByteClass
-- the test of equality of byte strings, and what a list of spellings finds
pub mod Spelling
-- `name_at` finds what `name_token` says
pub mod Names
-- `number_at` finds what `number_token` says, its value summed digit by digit
pub mod Numbers
-- `sign_at` finds what `sign_token` says; what a class says of signs is computed over all 256 bytes
pub mod Signs
-- the token at a position, by where the white space ends and by the class of the byte there
pub mod First
-- what does not go by a name's bytes may be asked of a token without them
pub mod WithoutBytes
-- the seven ways in which a token begins; the laws below go by these cases
pub mod View
-- a token lies from its place on within the text, and takes a byte unless it is the end or a knot
pub mod Sized
-- the tokens lie in order, do not overlap, and have white space alone between them
pub mod Order
-- a token depends on no byte before it
pub mod Moved
-- white space between tokens may be exchanged for other white space
pub mod Parted
-- where a token ends white space may be put or taken away
pub mod Boundary
-- a token is the longest that can be taken at its place; a knot stands there for one of the reasons of T7
pub mod Longest
-- the laws of tokens for every text, in one list
pub mod Laws
-- the tokens of some texts with their places, computed
pub mod Examples
