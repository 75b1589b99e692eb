-- The block of words has, for each letter, the limits that count it. Assumes nothing.
use Rattle.std.proofs.Common.{cond, eqb, ◌∙◌, ap, arith}
use lib.Bits.{bit_or}
use Rattle.windows.proofs.Steps.{counted-at}
use Rattle.windows.proofs.ArrayU641024Counted.with_letter.Goals as goal

pub returns : goal.returns
returns c =
    let a = c.args in
    ap (bit_or a.mask) (c.if_marked.ensures ∙ ap (cond (eqb a.mark 0) 0) (counted-at a.self.now a.letter (omega arith)))
