-- Letters numbered over all monitors, as a watch has them. Assumes nothing.
use Rattle.std.specs.Prelude.{List, [], ◌∷◌, ℕ, ◌+◌}
use Rattle.meaning.specs.Expression.{Exp, size, renumbered}

-- the monitors with their letters numbered over all of them, from k
unfoldable pub numbered_from : ℕ → List Exp → List Exp
numbered_from k [] = []
numbered_from k (m ∷ ms) = renumbered k m ∷ numbered_from (k + size m) ms
