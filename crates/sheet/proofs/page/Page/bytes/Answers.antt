-- The answers to the goals of `sheet::page::Page::bytes`.
use mathlib.Core.Path.{refl}
use native.Mathlib.Omega.{arith}
use Rattle.sheet.proofs.PageSteps.{remains-byte}
use Rattle.sheet.proofs.page.Page.bytes.Goals as goal

pub loop-byte-preserved : goal.loop-byte-preserved
loop-byte-preserved c = remains-byte _ _ _ (omega arith) refl c.loop-byte.invariant c.byte.ensures
