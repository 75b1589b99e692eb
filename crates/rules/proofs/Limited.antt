-- What an opened watch has for its limits: few of them, which of them count each letter, and their windows before the first tick. Assumes nothing.
use mathlib.Core.Path.{◌≡◌, refl, sym, ap, ap₂, ◌∙◌, subst}
use mathlib.Core.List.{List, [], ◌∷◌, ◌++◌, map, map-append, append_assoc}
use mathlib.Core.Logic.{⊎_elim}
use Prim.Native.Nat.{ℕ, zero, suc, ◌+◌, ◌<◌, ◌≤◌}
use native.Mathlib.Nat.{le_dest}
use native.Mathlib.Omega.{arith}
use lib.ListN.{length, length-append, length-map, get_or, drop, replicate, length-replicate, get_or-append}
use lib.Seq.{sets, get_or-append-add, get_or-drop}
use Rattle.meaning.specs.Lists.{◌∈◌, each, total}
use Rattle.meaning.specs.Answers.{value}
use Rattle.meaning.specs.Expression.{Letter, Exp, letter, seq, alt, star, pipe, letters, size, Ordered}
use Rattle.meaning.specs.Names.{Limit}
use Rattle.meaning.specs.Opening.{Opened, as_opened, open_text}
use Rattle.meaning.proofs.ListLaws.{here, there, append-∈, one-∈}
use Rattle.meaning.proofs.Numbering.{between, renumbered-size}
use Rattle.meaning.proofs.RowCount.{total-renumbered}
use Rattle.meaning.proofs.Openings.{Accepted, accepted-text, all_read, limits-few as few_limits}
use Rattle.windows.specs.Windows.{opened_windows}
use Rattle.rules.specs.Watches.{limit_mask, limit_word, counted_of, windows_of}
use Rattle.rules.proofs.Placing.{letters-long}
use Rattle.rules.proofs.Counting.{mask-small}
use Rattle.rules.proofs.LimitNumbers.{small-limits, mask-by-words}
use Rattle.rules.proofs.LimitTables.{stored-front, stored_at, each_map}

-- the numbers C of the letters of the monitors, whose first letter has the index l, say which limits count them
abbrev pub CountedFrom : (C : List ℕ) → List Limit → (l : ℕ) → List Exp → Type 0
CountedFrom C ls l [] = Unit {0}
CountedFrom C ls l (m ∷ ms) = ((x : Letter) → x ∈ letters m → get_or C (l + x.number) 0 ≡ limit_mask ls x) × CountedFrom C ls (l + size m) ms

-- ---- letters by their numbers

module _ (f : Letter → ℕ) where
  -- of two operands
  two_at : (k : ℕ) (e g : Exp) (x : Letter) (i : ℕ) → x.number ≡ k + i → x ∈ letters e ++ letters g → Ordered k e
      → (x ∈ letters e → get_or (map f (letters e)) i 0 ≡ f x) → ((j : ℕ) → x.number ≡ k + size e + j → x ∈ letters g → get_or (map f (letters g)) j 0 ≡ f x) → Ordered (k + size e) g
      → get_or (map f (letters e ++ letters g)) i 0 ≡ f x
  two_at k e g x i q m o left right u = ap (λ (s : List ℕ). get_or s i 0) (map-append f (letters e) (letters g)) ∙ ⊎_elim before behind (append-∈ (letters e) m)
    where
      before : x ∈ letters e → get_or (map f (letters e) ++ map f (letters g)) i 0 ≡ f x
      before n =
          get_or-append (map f (letters e)) (map f (letters g)) 0 i (omega (arith, (between k e o x n).1, length-map (letters e) f, letters-long e)) ∙ left n

      behind : x ∈ letters g → get_or (map f (letters e) ++ map f (letters g)) i 0 ≡ f x
      behind n =
          let (j, d) = le_dest (between (k + size e) g u x n).0 in
          let t : i ≡ length (map f (letters e)) + j = omega (arith, d, length-map (letters e) f, letters-long e) in
          ap (λ (h : ℕ). get_or (map f (letters e) ++ map f (letters g)) h 0) t ∙ get_or-append-add (map f (letters e)) (map f (letters g)) j 0 ∙ right j (omega (arith, d)) n

  letter_at : (k : ℕ) (e : Exp) → Ordered k e → (x : Letter) → x ∈ letters e → (i : ℕ) → x.number ≡ k + i → get_or (map f (letters e)) i 0 ≡ f x
  unfolding letters
  letter_at k (letter l) o x m i q =
      let e : x ≡ l = one-∈ m in
      let z : i ≡ 0 = (let n : x.number ≡ l.number = ap (λ (y : Letter). y.number) e in omega (arith, o)) in
      rw z (ap f (sym e))
  letter_at k (seq e g) (o, u) x m i q = two_at k e g x i q m o (λ n. letter_at k e o x n i q) (λ j p n. letter_at (k + size e) g u x n j p) u
  letter_at k (alt e g) (o, u) x m i q = two_at k e g x i q m o (λ n. letter_at k e o x n i q) (λ j p n. letter_at (k + size e) g u x n j p) u
  letter_at k (star e) o x m i q = letter_at k e o x m i q
  letter_at k (pipe e g) (o, u) x m i q = two_at k e g x i q m o (λ n. letter_at k e o x n i q) (λ j p n. letter_at (k + size e) g u x n j p) u

-- ---- all monitors

each_long : (f : Letter → ℕ) (ms : List Exp) → length (each ms (λ m. map f (letters m))) ≡ total size ms
each_long f [] = refl
each_long f (m ∷ ms) = length-append (map f (letters m)) _ ∙ ap₂ ◌+◌ (length-map (letters m) f ∙ letters-long m) (each_long f ms)

-- one monitor, between the numbers of those before it and those behind it
module _ (ls : List Limit) (m : Exp) (o : Ordered 0 m) (front rest : List ℕ) where
  abbrev mine : List ℕ
  mine = map (limit_mask ls) (letters m)

  mine-long : length mine ≡ size m
  mine-long = length-map (letters m) (limit_mask ls) ∙ letters-long m

  front_long : length (front ++ mine) ≡ length front + size m
  front_long = length-append front mine ∙ ap (λ (n : ℕ). length front + n) mine-long

  one-counted : length front + (size m + length rest) ≤ 256 → (x : Letter) → x ∈ letters m
      → get_or (sets (replicate 256 0) 0 (front ++ (mine ++ rest))) (length front + x.number) 0 ≡ limit_mask ls x
  one-counted room x i =
      let (z, b) = between 0 m o x i in
      let long : length (front ++ (mine ++ rest)) ≡ length front + (size m + length rest)
      = length-append front (mine ++ rest) ∙ ap (λ (n : ℕ). length front + n) (length-append mine rest ∙ ap (λ (n : ℕ). n + length rest) mine-long) in
      stored_at (replicate 256 0) (front ++ (mine ++ rest)) (omega (arith, length-replicate {A = ℕ} 256 0)) (length front + x.number) (omega arith)
      ∙ get_or-append-add front (mine ++ rest) x.number 0 ∙ get_or-append mine rest 0 x.number (omega (arith, mine-long))
      ∙ letter_at (limit_mask ls) 0 m o x i x.number (omega arith)

-- behind the numbers of the monitors before them
counted-behind : (ls : List Limit) (front : List ℕ) (ms : List Exp) → ((m : Exp) → m ∈ ms → Ordered 0 m) → length front + total size ms ≤ 256
    → CountedFrom (sets (replicate 256 0) 0 (front ++ each ms (λ m. map (limit_mask ls) (letters m)))) ls (length front) ms
counted-behind ls front [] o room = tt
counted-behind ls front (m ∷ ms) o room =
    let ys = map (limit_mask ls) (letters m) in
    let zs = each ms (λ m. map (limit_mask ls) (letters m)) in
    let n = front_long ls m (o m (here refl)) front zs in (
      one-counted ls m (o m (here refl)) front zs (omega (arith, each_long (limit_mask ls) ms)),
      subst (λ (k : ℕ). CountedFrom (sets (replicate 256 0) 0 (front ++ (ys ++ zs))) ls k ms) n
          (subst (λ (us : List ℕ). CountedFrom (sets (replicate 256 0) 0 us) ls (length (front ++ ys)) ms) (append_assoc front ys zs)
          (counted-behind ls (front ++ ys) ms (λ m i. o m (there i)) (omega (arith, n)))),
    )

-- ---- numbers below 256

abbrev AllLow : List ℕ → Type 0
AllLow ys = (i : ℕ) → get_or ys i 0 < 256

zeros-low : (n : ℕ) → AllLow (replicate n 0)
zeros-low zero i = omega arith
zeros-low (suc n) zero = omega arith
zeros-low (suc n) (suc i) = zeros-low n i

append-low : (xs ys : List ℕ) → AllLow xs → AllLow ys → AllLow (xs ++ ys)
append-low [] ys g h i = h i
append-low (x ∷ xs) ys g h zero = g 0
append-low (x ∷ xs) ys g h (suc i) = append-low xs ys (λ j. g (suc j)) h i

mapped-low : (f : Letter → ℕ) → ((x : Letter) → f x < 256) → (xs : List Letter) → AllLow (map f xs)
mapped-low f h [] i = omega arith
mapped-low f h (x ∷ xs) zero = h x
mapped-low f h (x ∷ xs) (suc i) = mapped-low f h xs i

-- ---- an opened text

module _ (text : List ℕ) (o : Opened) (e : open_text text ≡ value o) where
  pub limits-few : length o.limits ≤ 8
  limits-few = (few_limits text o e).count

  pub limits-proper : (l : Limit) → l ∈ o.limits → (1 ≤ l.window) × (l.window ≤ 1024) × (l.most < l.window)
  limits-proper l i = let p = (few_limits text o e).each l i in (p.some, p.short, p.below)

  a : Accepted text o
  a = accepted-text text o e

  small : (l : Limit) → l ∈ o.limits → l.production < 128
  unfolding as_opened
  small = subst (λ (ls : List Limit). (l : Limit) → l ∈ ls → l.production < 128) (ap (λ (z : Opened). z.limits) a.opens) (small-limits text a.program a.reads)

  few_letters : total size o.monitors ≤ 256
  unfolding as_opened
  few_letters =
      let n : total size o.monitors ≡ total size a.program.monitors
      = ap (λ (z : Opened). total size z.monitors) (sym a.opens) ∙ total-renumbered size (renumbered-size 0) a.program.monitors in
      omega (arith, a.few)

  pub counted-right : CountedFrom (counted_of o) o.limits 0 o.monitors
  unfolding counted_of
  counted-right = counted-behind o.limits [] o.monitors (λ m i. (all_read text o e m i).0) (omega (arith, few_letters))

  mask_low : (x : Letter) → limit_mask o.limits x < 256
  mask_low x =
      subst (λ (n : ℕ). n < 256) (mask-by-words o.limits small x)
      (mask-small (map limit_word o.limits) x.through (omega (arith, length-map o.limits limit_word, limits-few)))

  pub counted-low : (i : ℕ) → get_or (counted_of o) i 0 < 256
  unfolding counted_of
  counted-low i =
      let ys = each o.monitors (λ m. map (limit_mask o.limits) (letters m)) in
      let room : length ys ≤ length {A = ℕ} (replicate 256 0) = omega (arith, each_long (limit_mask o.limits) o.monitors, few_letters, length-replicate {A = ℕ} 256 0) in
      subst (λ (s : List ℕ). get_or s i 0 < 256) (sym (stored-front (replicate 256 0) ys room))
      (append-low ys (drop (length ys) (replicate 256 0))
      (subst AllLow (sym (each_map (limit_mask o.limits) o.monitors)) (mapped-low (limit_mask o.limits) mask_low (each o.monitors letters)))
      (λ j. subst (λ (n : ℕ). n < 256) (sym (get_or-drop (length ys) (replicate 256 0) j 0)) (zeros-low 256 (length ys + j))) i)

  pub windows-open : windows_of o ≡ opened_windows (map limit_word o.limits) (length o.limits)
  unfolding windows_of
  windows-open = refl
