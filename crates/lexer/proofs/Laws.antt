-- The laws of tokens, proved for every text, in one place for those who read or cite them.
-- Assumes nothing.

-- tokens-step: from a position on, the list is the token there and, unless that is the end or a refusal, the list after it.
-- in_order: the tokens do not overlap, lie in order and within the text, and all but the last take a byte or more.
-- spaced: between the tokens, before the first and before the end, there is only white space.
pub use Rattle.lexer.proofs.Order.{tokens-step, InOrder, in_order, Spaced, spaced}
-- token-longest: a token is spelled by its bytes, and no more bytes from its place on spell a token.
-- knot-why: what is refused has the number 2, for one of the reasons of T7.
-- end-place: the end's place is the text's length.
pub use Rattle.lexer.proofs.Longest.{Spells, Longest, token-longest, Why, knot-why, end-place}
-- tokens-parted: with white space between x and y, the tokens are those of x and then those of y, moved.
-- white-changed: white space that is exchanged for other white space changes no token.
pub use Rattle.lexer.proofs.Parted.{joined, kinds, tokens-parted, white-changed}
-- tokens-bounded: the same with nothing between x and y, where a token ends with x.
-- white-added: white space that is put where a token ends, or taken away there, changes no token.
pub use Rattle.lexer.proofs.Boundary.{Ends, tokens-bounded, white-added}
-- token-moved, tokens-moved: a token, and the list of them, depends on no byte before it.
pub use Rattle.lexer.proofs.Moved.{moved, token-moved, tokens-moved}
-- lies: where the token at a position lies. at_place: it is the first of the text from its place on.
pub use Rattle.lexer.proofs.Sized.{Lies, lies, at_place}
