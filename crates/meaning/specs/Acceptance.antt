-- Which texts are accepted, and which refusal from 8 to 12 any other one gets (docs/REFERENCE.md, X9 and X10), as statements: nothing here is computed.
-- proofs/Exactly shows that opening answers so.
-- Assumes nothing.
use Rattle.std.specs.Prelude.{List, ◌∷◌, ◌++◌, ◌≡◌, ◌⊎◌, ℕ, ◌+◌, ◌≤◌, ◌<◌, length}
use Rattle.refusals.specs.Numbers.{long_run, impossible, hollow, open_end, fork}
use Rattle.meaning.specs.Lists.{◌∈◌, total}
use Rattle.meaning.specs.Expression.{Exp, size}
use Rattle.meaning.specs.Names.{Program}
use Rattle.meaning.specs.Grammar.{IsProgram}
use Rattle.meaning.specs.Shape.{UnsatisfiableAt, NullableAt, OpenEndAt, AmbiguousAt, Never, Lowest}
use Rattle.meaning.specs.Opening.{as_opened}

-- T1 and G1: the bytes are a text of the grammar that means p, and not too many.
pub record Written (text : List ℕ) (p : Program) : Type 0 where
  pub short : length text ≤ 16384
  pub derived : IsProgram text p

-- S10 to S13: no letter of the monitor is at fault.
pub record WellShaped (m : Exp) : Type 0 where
  pub satisfiable : Never (UnsatisfiableAt m)
  pub solid : Never (NullableAt m)
  pub closed : Never (OpenEndAt m)
  pub unambiguous : Never (AmbiguousAt m)

-- What opening asks for: a written text with few letters (N6) and well-shaped monitors.
pub record Acceptable (text : List ℕ) (p : Program) : Type 0 where
  pub written : Written text p
  pub few : total size p.monitors ≤ 256
  pub shaped : (m : Exp) → m ∈ (as_opened p).monitors → WellShaped m

-- X10: "The first rule broken is told, with the monitor and the lowest letter at fault by that rule"
pub data FirstFault (m : Exp) : (rule letter : ℕ) → Type 0 where
  by_9 : {n : ℕ} → Lowest (UnsatisfiableAt m) n → FirstFault m impossible n
  by_10 : {n : ℕ} → Never (UnsatisfiableAt m) → Lowest (NullableAt m) n → FirstFault m hollow n
  by_11 : {n : ℕ} → Never (UnsatisfiableAt m) → Never (NullableAt m) → Lowest (OpenEndAt m) n → FirstFault m open_end n
  by_12 : {n : ℕ} → Never (UnsatisfiableAt m) → Never (NullableAt m) → Never (OpenEndAt m) → Lowest (AmbiguousAt m) n → FirstFault m fork n

-- Monitor i is m, behind those before it.
pub record Stands (ms : List Exp) (i : ℕ) (before : List Exp) (m : Exp) : Type 0 where
  pub after : List Exp
  pub split : ms ≡ before ++ (m ∷ after)
  pub number : i ≡ length before

-- X9: "the first monitor that takes the letters, counted from monitor 0 on, beyond 256"
pub record FirstLong (ms : List Exp) (i : ℕ) : Type 0 where
  pub before : List Exp
  pub monitor : Exp
  pub stands : Stands ms i before monitor
  pub kept : total size before ≤ 256
  pub passed : 256 < total size before + size monitor

-- X10: "the monitors are judged in their order". Monitor i is the first that is not well-shaped; rule and letter are its own first fault.
pub record FirstMisshapen (ms : List Exp) (i rule letter : ℕ) : Type 0 where
  pub before : List Exp
  pub monitor : Exp
  pub stands : Stands ms i before monitor
  pub kept : (b : Exp) → b ∈ before → WellShaped b
  pub fault : FirstFault monitor rule letter

-- The refusal by number, monitor and letter that a written text gets. X9: "First comes 8, long run, with .. letter 0"; then X10.
abbrev pub TurnedAway : Program → (number i letter : ℕ) → Type 0
TurnedAway p number i letter =
    ((number ≡ long_run) × (letter ≡ 0) × FirstLong p.monitors i)
    ⊎ ((total size p.monitors ≤ 256) × FirstMisshapen (as_opened p).monitors i number letter)
