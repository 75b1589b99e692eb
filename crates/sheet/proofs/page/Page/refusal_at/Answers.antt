-- The answers to the goals of `sheet::page::Page::refusal_at`.
use mathlib.Core.Path.{ap}
use mathlib.Core.List.{◌∷◌}
use Prim.Native.Nat.{ℕ}
use Rattle.meaning.specs.Sheet.{decimal}
use Rattle.sheet.proofs.PageSteps.{both, printed_as}
use Rattle.sheet.proofs.LineSteps.{refusal-at-line}
use Rattle.sheet.proofs.page.Page.refusal_at.Goals as goal

pub returns-clause-printed : goal.returns-clause-printed
returns-clause-printed c =
    printed_as (refusal-at-line c.args.number c.args.monitor c.args.letter)
    (both c.text.ensures (both (printed_as (ap (λ (k : ℕ). 32 ∷ decimal k) c.from.ensures) c.number.ensures.printed)
    (both c.number-2.ensures.printed (both c.number-3.ensures.printed c.byte.ensures))))
