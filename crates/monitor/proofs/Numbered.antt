-- A program's monitors with their letters numbered over all of them: the watch's lists are theirs too. Assumes nothing.
use mathlib.Core.Path.{◌≡◌, refl, sym, ap, ap₂, ◌∙◌, subst}
use mathlib.Core.Logic.{⊎_elim}
use mathlib.Core.List.{List, [], ◌∷◌, map}
use Prim.Native.Nat.{ℕ, suc, ◌+◌, ◌<◌}
use native.Mathlib.Omega.{arith}
use lib.ListN.{length}
use Rattle.meaning.specs.Lists.{◌∈◌, total}
use Rattle.meaning.specs.Answers.{value}
use Rattle.meaning.specs.Expression.{Letter, Exp, letter, seq, alt, star, pipe, letters, size, renumbered, Ordered}
use Rattle.meaning.specs.Numbered.{numbered_from}
use Rattle.meaning.specs.Opening.{Opened}
use Rattle.meaning.proofs.ListLaws.{no-∈, cons-∈}
use Rattle.meaning.proofs.Numbering.{renumbered-size, renumbered-ordered, between}
use Rattle.rules.specs.Monitors.{Lists, with_monitors}
use Rattle.rules.specs.Watches.{no_lists, counted_of, windows_of, watch_by, watch_of}
use Rattle.rules.proofs.Starting.{tables-renumbered}

-- an opened program's monitors, with their letters numbered over all of them
abbrev pub program_of : Opened → List Exp
program_of o = numbered_from 0 o.monitors

-- monitors whose letters are numbered from k on, one monitor's behind the other's
abbrev pub InOrder : ℕ → List Exp → Type 0
InOrder k [] = Unit {0}
InOrder k (m ∷ ms) = Ordered k m × InOrder (k + size m) ms

pub numbered-in-order : (k : ℕ) (ms : List Exp) → InOrder k (numbered_from k ms)
unfolding numbered_from
numbered-in-order k [] = tt
numbered-in-order k (m ∷ ms) = (
  renumbered-ordered k m,
  subst (λ (n : ℕ). InOrder (k + n) (numbered_from (k + size m) ms)) (sym (renumbered-size k m)) (numbered-in-order (k + size m) ms),
)

-- numbering keeps all counts
pub total-numbered : (f : Exp → ℕ) → ((k : ℕ) (m : Exp) → f (renumbered k m) ≡ f m) → (k : ℕ) (ms : List Exp) → total f (numbered_from k ms) ≡ total f ms
unfolding numbered_from
total-numbered f same k [] = refl
total-numbered f same k (m ∷ ms) = ap₂ ◌+◌ (same k m) (total-numbered f same (k + size m) ms)

pub length-numbered : (k : ℕ) (ms : List Exp) → length (numbered_from k ms) ≡ length ms
unfolding numbered_from
length-numbered k [] = refl
length-numbered k (m ∷ ms) = ap suc (length-numbered (k + size m) ms)

-- the first numbers do not matter to a second numbering
right-again : (j k i : ℕ) (e f : Exp) → renumbered (j + size e) (renumbered i f) ≡ renumbered (j + size e) f
    → renumbered (j + size (renumbered k e)) (renumbered i f) ≡ renumbered (j + size e) f
right-again j k i e f p = ap (λ (n : ℕ). renumbered (j + n) (renumbered i f)) (renumbered-size k e) ∙ p

renumbered-again : (j k : ℕ) (e : Exp) → renumbered j (renumbered k e) ≡ renumbered j e
unfolding renumbered
renumbered-again j k (letter x) = refl
renumbered-again j k (seq e f) = ap₂ seq (renumbered-again j k e) (right-again j k (k + size e) e f (renumbered-again (j + size e) (k + size e) f))
renumbered-again j k (alt e f) = ap₂ alt (renumbered-again j k e) (right-again j k (k + size e) e f (renumbered-again (j + size e) (k + size e) f))
renumbered-again j k (star e) = ap star (renumbered-again j k e)
renumbered-again j k (pipe e f) = ap₂ pipe (renumbered-again j k e) (right-again j k (k + size e) e f (renumbered-again (j + size e) (k + size e) f))

all-again : (k : ℕ) (ms : List Exp) → map (renumbered 0) (numbered_from k ms) ≡ map (renumbered 0) ms
unfolding numbered_from
all-again k [] = refl
all-again k (m ∷ ms) = ap₂ ◌∷◌ (renumbered-again 0 k m) (all-again (k + size m) ms)

-- nor to the watch's lists
pub watch-numbered : (o : Opened)
    → watch_of (value o) ≡ watch_by (with_monitors no_lists 0 0 0 (program_of o)) o.row_count o.letter_count (length o.monitors) o.wires o.initial (counted_of o) (windows_of o)
unfolding watch_of
watch-numbered o =
    ap (λ (A : Lists). watch_by A o.row_count o.letter_count (length o.monitors) o.wires o.initial (counted_of o) (windows_of o))
    (sym (tables-renumbered no_lists 0 0 0 o.monitors) ∙ ap (with_monitors no_lists 0 0 0) (sym (all-again 0 o.monitors)) ∙ tables-renumbered no_lists 0 0 0 (program_of o))

-- the numbers of the letters of monitors numbered from k on
pub numbers-below : (k : ℕ) (ms : List Exp) → InOrder k ms → (m : Exp) → m ∈ ms → (l : Letter) → l ∈ letters m → l.number < k + total size ms
numbers-below k [] o m i l j = absurd (no-∈ i)
numbers-below k (x ∷ ms) o m i l j = ⊎_elim
    (λ (p : m ≡ x). let (a, b) = between k x o.0 l (subst (λ z. l ∈ letters z) p j) in omega arith)
    (λ (h : m ∈ ms). let b = numbers-below (k + size x) ms o.1 m h l j in omega arith) (cons-∈ i)
