-- What a run over records comes to in the code. Assumes nothing.
use Rattle.std.specs.Prelude.{List, ◌≡◌, ◌≤◌, ℕ, length, drop}
use Rattle.sheet.specs.Lines.{Ran, run}
use Rattle.sheet.specs.Pages.{Printed}
use Rattle.sheet.specs.declared.page.Page.{Page}
use Rattle.sheet.specs.declared.ticking.Ran.{Ran as CodeRan}

-- it is the run x, whose lines were printed on the page
pub record RanOver (x : Ran) (records : List ℕ) (page page' : Page) (r : CodeRan) : Type 0 where
  pub after : run r.watch r.before ≡ x.after
  pub left : drop r.used records ≡ x.left
  pub ended : r.ended ≡ x.ended
  pub printed : Printed page page' x.printed
  pub place : r.at ≡ page'.at
  pub within : r.used ≤ length records
  pub short : page'.at ≤ 64200200
