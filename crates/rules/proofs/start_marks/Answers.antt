-- `rules::start_marks` meets its contract.
-- Assumes nothing.
use native.Mathlib.Omega.{arith}
use Prim.Native.Nat.{◌+◌, ◌-◌}
use mathlib.Core.Path.{◌≡◌, ◌∙◌, ap}
use lib.ListN.{length, take, replicate, length-replicate}
use lib.Seq.{length-take-le}
use Rattle.rules.proofs.Starting.{copied}
use Rattle.rules.proofs.start_marks.Goals as goal

pub returns : goal.returns
returns c =
    let n = c.args.count in
    let k = 256 + n - 256 in
    let e : length (take k (replicate 32 0)) ≡ n = length-take-le k (replicate 32 0) (omega arith) ∙ omega arith in
    copied (replicate 288 0) _ (replicate n 1) 256 k
    (c.fill.ensures.after (λ y e. e) ∙ ap (λ m. replicate m 1) e)
    (length-replicate n 1 ∙ omega arith) (omega arith)
