-- The answers to the goals of `sheet::page::Page::text`.
use mathlib.Core.Path.{refl}
use Rattle.sheet.proofs.PageSteps.{printed-whole}
use Rattle.sheet.proofs.page.Page.text.Goals as goal

pub returns : goal.returns
returns c = record { same = refl; wrote = printed-whole _ _ _ _ c.copy_from_slice.ensures.after c.if-self-end.false; behind = refl }
