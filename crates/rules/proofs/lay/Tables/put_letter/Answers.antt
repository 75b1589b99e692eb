-- `rules::lay::Tables::put_letter` meets its contract.
-- Assumes nothing.
use native.Mathlib.Omega.{arith}
use borrow.Author.Rules.{rules}
use Rattle.rules.proofs.Placing.{some-bare, letter-inside, held-inside, some_tests, some-writes, letter-put}
use Rattle.rules.proofs.lay.Tables.put_letter.Goals as goal

pub overflow_add-self : goal.overflow_add-self
overflow_add-self c = let l = letter-inside _ _ (some-bare _ _ _ c.unnamed-bare.ensures c.requires.1) in omega arith

pub offset_bounds-words-bare : goal.offset_bounds-words-bare
offset_bounds-words-bare c = let l = letter-inside _ _ (some-bare _ _ _ c.unnamed-bare.ensures c.requires.1) in omega arith

pub bounds-words-bare : goal.bounds-words-bare
bounds-words-bare c = let l = letter-inside _ _ (some-bare _ _ _ c.unnamed-bare.ensures c.requires.1) in omega arith

pub overflow_add-self-2 : goal.overflow_add-self-2
overflow_add-self-2 c = let l = letter-inside _ _ (some-bare _ _ _ c.unnamed-bare.ensures c.requires.1) in omega arith

pub offset_bounds-words-bare-2 : goal.offset_bounds-words-bare-2
offset_bounds-words-bare-2 c = let l = letter-inside _ _ (some-bare _ _ _ c.unnamed-bare.ensures c.requires.1) in omega arith

pub bounds-words-bare-2 : goal.bounds-words-bare-2
bounds-words-bare-2 c = let l = letter-inside _ _ (some-bare _ _ _ c.unnamed-bare.ensures c.requires.1) in omega arith

pub offset_bounds-words-bare-3 : goal.offset_bounds-words-bare-3
offset_bounds-words-bare-3 c = let l = letter-inside _ _ (some-bare _ _ _ c.unnamed-bare.ensures c.requires.1) in omega arith

pub bounds-words-bare-3 : goal.bounds-words-bare-3
bounds-words-bare-3 c = let l = letter-inside _ _ (some-bare _ _ _ c.unnamed-bare.ensures c.requires.1) in omega arith

pub held_at-requires : goal.held_at-requires
held_at-requires c = held-inside _ _ _ c.part3.ensures (some-bare _ _ _ c.unnamed-bare.ensures c.requires.1)

pub put_links-requires : goal.put_links-requires
put_links-requires c = (search rules, some_tests _ _ _ c.part1.ensures (some-bare _ _ _ c.unnamed-bare.ensures c.requires.1))

pub put_links-requires-2 : goal.put_links-requires-2
put_links-requires-2 c = (search rules, some-writes _ _ _ c.part2.ensures (some-bare _ _ _ c.unnamed-bare.ensures c.requires.1))

pub returns : goal.returns
returns c = λ b x s. letter-put _ _ _ c.args.self.now _ _ _ _ _ _ c.part1.ensures c.part2.ensures c.part3.ensures c.held_at.ensures c.put_links.ensures c.put_links-2.ensures b x (c.unnamed-bare.ensures b x s)
