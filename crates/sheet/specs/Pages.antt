-- What it means that bytes were printed on a page. Assumes nothing.
use Rattle.std.specs.Prelude.{List, ◌≡◌, ℕ, ◌+◌, length}
use Rattle.std.proofs.lemmas.List.Edits.{sets}
use Rattle.sheet.specs.declared.page.Page.{Page}

-- on the same range, from the place on and as far as it reaches; and the place is behind them
pub record Printed (before after : Page) (text : List ℕ) : Type 0 where
  pub same : after.out.ghost_name ≡ before.out.ghost_name
  pub wrote : after.out.now ≡ sets before.out.now before.at text
  pub behind : after.at ≡ before.at + length text
