-- Letters numbered in reading order.
use mathlib.Core.Path.{◌≡◌, refl, sym, ap, ap₂, ◌∙◌, subst}
use mathlib.Core.Logic.{⊎_elim}
use Prim.Native.Nat.{ℕ, ◌+◌, ◌≤◌, ◌<◌}
use native.Mathlib.Omega.{arith}
use Rattle.meaning.specs.Lists.{◌∈◌}
use Rattle.meaning.specs.Expression.{Letter, Exp, letter, seq, alt, star, pipe, letters, size, rows, renumbered, Ordered}
use Rattle.meaning.proofs.ListLaws.{append-∈, one-∈}
use Rattle.meaning.proofs.OneWay.{Apart, Numbered}

-- ---- numbering anew ----

pub renumbered-size : (k : ℕ) (e : Exp) → size (renumbered k e) ≡ size e
unfolding size renumbered
renumbered-size k (letter l) = refl
renumbered-size k (seq e f) = ap₂ ◌+◌ (renumbered-size k e) (renumbered-size (k + size e) f)
renumbered-size k (alt e f) = ap₂ ◌+◌ (renumbered-size k e) (renumbered-size (k + size e) f)
renumbered-size k (star e) = renumbered-size k e
renumbered-size k (pipe e f) = ap₂ ◌+◌ (renumbered-size k e) (renumbered-size (k + size e) f)

pub renumbered-rows : (k : ℕ) (e : Exp) → rows (renumbered k e) ≡ rows e
unfolding rows renumbered
renumbered-rows k (letter l) = refl
renumbered-rows k (seq e f) = ap₂ (λ x y. 1 + x + y) (renumbered-rows k e) (renumbered-rows (k + size e) f)
renumbered-rows k (alt e f) = ap₂ (λ x y. 1 + x + y) (renumbered-rows k e) (renumbered-rows (k + size e) f)
renumbered-rows k (star e) = ap (λ x. 1 + x) (renumbered-rows k e)
renumbered-rows k (pipe e f) = ap₂ (λ x y. 1 + x + y) (renumbered-rows k e) (renumbered-rows (k + size e) f)

right-ordered : (k : ℕ) (e f : Exp) → Ordered (k + size e) f → Ordered (k + size (renumbered k e)) f
right-ordered k e f o = subst (λ n. Ordered (k + n) f) (sym (renumbered-size k e)) o

pub renumbered-ordered : (k : ℕ) (e : Exp) → Ordered k (renumbered k e)
unfolding renumbered
renumbered-ordered k (letter l) = refl
renumbered-ordered k (seq e f) = (renumbered-ordered k e, right-ordered k e (renumbered (k + size e) f) (renumbered-ordered (k + size e) f))
renumbered-ordered k (alt e f) = (renumbered-ordered k e, right-ordered k e (renumbered (k + size e) f) (renumbered-ordered (k + size e) f))
renumbered-ordered k (star e) = renumbered-ordered k e
renumbered-ordered k (pipe e f) = (renumbered-ordered k e, right-ordered k e (renumbered (k + size e) f) (renumbered-ordered (k + size e) f))

-- what is numbered in reading order stays as it is
pub ordered-renumbered : (k : ℕ) (e : Exp) → Ordered k e → renumbered k e ≡ e
unfolding renumbered
ordered-renumbered k (letter l) o = ap (λ n. letter (record { number = n; literals = l.literals; writes = l.writes; through = l.through })) (sym o)
ordered-renumbered k (seq e f) (o, u) = ap₂ seq (ordered-renumbered k e o) (ordered-renumbered (k + size e) f u)
ordered-renumbered k (alt e f) (o, u) = ap₂ alt (ordered-renumbered k e o) (ordered-renumbered (k + size e) f u)
ordered-renumbered k (star e) o = ap star (ordered-renumbered k e o)
ordered-renumbered k (pipe e f) (o, u) = ap₂ pipe (ordered-renumbered k e o) (ordered-renumbered (k + size e) f u)

-- ---- numbered in reading order: numbered apart ----

pub between : (k : ℕ) (e : Exp) → Ordered k e → (l : Letter) → l ∈ letters e → (k ≤ l.number) × (l.number < k + size e)
unfolding letters size
between k (letter x) o l i = let p : l.number ≡ k = ap (λ z. z.number) (one-∈ i) ∙ o in (omega arith, omega arith)
between k (seq e f) (o, u) l i = ⊎_elim
    (λ j. let (p, q) = between k e o l j in (omega arith, omega arith))
    (λ j. let (p, q) = between (k + size e) f u l j in (omega arith, omega arith))
    (append-∈ (letters e) i)
between k (alt e f) (o, u) l i = ⊎_elim
    (λ j. let (p, q) = between k e o l j in (omega arith, omega arith))
    (λ j. let (p, q) = between (k + size e) f u l j in (omega arith, omega arith))
    (append-∈ (letters e) i)
between k (star e) o l i = between k e o l i
between k (pipe e f) (o, u) l i = ⊎_elim
    (λ j. let (p, q) = between k e o l j in (omega arith, omega arith))
    (λ j. let (p, q) = between (k + size e) f u l j in (omega arith, omega arith))
    (append-∈ (letters e) i)

apart : (k : ℕ) (e f : Exp) → Ordered k e → Ordered (k + size e) f → Apart e f
apart k e f o u x y i j p =
    let (a, b) = between k e o x i in
    let (c, d) = between (k + size e) f u y j in
    omega arith

pub numbered : (k : ℕ) (e : Exp) → Ordered k e → Numbered e
numbered k (letter l) o = tt
numbered k (seq e f) (o, u) = (apart k e f o u, numbered k e o, numbered (k + size e) f u)
numbered k (alt e f) (o, u) = (apart k e f o u, numbered k e o, numbered (k + size e) f u)
numbered k (star e) o = numbered k e o
numbered k (pipe e f) (o, u) = (apart k e f o u, numbered k e o, numbered (k + size e) f u)
