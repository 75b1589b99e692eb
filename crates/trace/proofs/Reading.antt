-- Reading one record at its place in a trace, in the steps that the code takes. Assumes nothing.
use mathlib.Core.Path.{◌≡◌, refl}
use mathlib.Core.Bool.{Bool, true, false}
use mathlib.Core.List.{List, [], ◌∷◌}
use Prim.Native.Nat.{ℕ, ◌+◌, ◌-◌, ◌<◌, ◌≤◌}
use native.Mathlib.Nat.{suc-ne-zero}
use native.Mathlib.Omega.{arith}
use lib.ListN.{length, take, drop}
use borrow.Author.Tests.{lt-ltb, le-ltb}
use Rattle.std.specs.Prelude.{Option}
use Rattle.refusals.specs.Numbers.{torn, idle_byte, short_bin}
use Rattle.trace.specs.Answer.{Answer, value, refused}
use Rattle.trace.specs.Record.{Item, word, end, count, merged, idle, judged, read_record}
use Rattle.trace.specs.Whole.{placed, read_at}
use Rattle.trace.specs.Shown.{shown_merged}
use Rattle.trace.proofs.Clash.{clash}
use Rattle.trace.proofs.Lists.{part-rest}

-- a position that is not past the end
pub at-drop : (trace : List ℕ) (at before : ℕ) → at ≤ length trace → read_at trace at before ≡ placed at (read_record (drop at trace) before)
unfolding read_at
at-drop trace at before h = rw (le-ltb _ _ h)

-- no record is too short for a buffer
pub never-short : (l : List ℕ) (before place : ℕ) → refused short_bin place ≡ read_record l before → ⊥
unfolding read_record
never-short [] before place e = clash (cc)
never-short (map ∷ given) before place e = go _ _ _ e
  where
    go : (t i : Bool) (x : Item) → refused short_bin place ≡ judged t i x → ⊥
    go true i x f = let z : ◌≡◌ {A = ℕ} short_bin torn = cc in absurd (omega arith)
    go false true x f = let z : ◌≡◌ {A = ℕ} short_bin idle_byte = cc in absurd (omega arith)
    go false false x f = clash (cc)

module _ (trace : List ℕ) (at before : ℕ) where
  pub at-past : length trace < at → refused torn at ≡ read_at trace at before
  unfolding read_at
  at-past h = rw (lt-ltb _ _ h)

  -- `a` is what was read from `at` on
  pub at-within : (a : Answer Item) → at ≤ length trace → a ≡ read_record (take (length trace - at) (drop at trace)) before
      → placed at a ≡ read_at trace at before
  at-within a h e = rw (at-drop trace at before h, e, part-rest at trace)

pub read-none : (l : List ℕ) (before : ℕ) → length l ≡ 0 → value end ≡ read_record l before
unfolding read_record
read-none [] before e = refl
read-none (m ∷ g) before e = absurd (suc-ne-zero (length g) e)

module _ (l : List ℕ) (before map n : ℕ) (given : List ℕ) (parts : l ≡ map ∷ given) (follow : n ≡ count 8 map) where
  pub read-torn : length given < n → refused torn 0 ≡ read_record l before
  unfolding read_record
  read-torn h = rw (parts, ← follow, lt-ltb _ _ h)

  -- `r` is what the merge answered
  pub read-merged : (r : Option ℕ) → n ≤ length given
      → ((m : ℕ) → shown_merged r m ≡ judged false (idle 8 before map given) (word (merged before map given) m))
      → shown_merged r (1 + n) ≡ read_record l before
  unfolding read_record
  read-merged r h e = rw (parts, ← follow, le-ltb _ _ h) (e (1 + n))
