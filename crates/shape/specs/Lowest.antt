-- The lowest number that passes a test. Assumes nothing.
use Rattle.std.specs.Prelude.{Bool, cond, Option, None, Some, ◌≡◌, ℕ, zero, suc, ◌-◌, ◌≤◌, ◌<◌}

-- of the n numbers from i on; the one behind them where none passes
unfoldable pub lowest : (ℕ → Bool) → ℕ → ℕ → ℕ
lowest test i zero = i
lowest test i (suc n) = cond (test i) i (lowest test (suc i) n)

-- an answer of the code: that number of those from the first on and below the end, or that none of them passes
abbrev pub Lowest : (test : ℕ → Bool) (first end : ℕ) → Option ℕ → Type 0
Lowest test first end (Some letter) = (letter ≡ lowest test first (end - first)) × (letter < end)
Lowest test first end None = end ≤ lowest test first (end - first)
