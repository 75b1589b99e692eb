-- `rules::no_watch` meets its contract.
-- Assumes nothing.
use mathlib.Core.Path.{refl}
use Rattle.rules.specs.Watches.{letters_from}
use Rattle.rules.proofs.no_watch.Goals as goal

pub returns : goal.returns
unfolding letters_from
returns c = refl
