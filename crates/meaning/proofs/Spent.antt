-- What walks over the rows may spend, one from each letter met and none aware of the others: a definition, and that it is at most three times the sums of proofs/Counting.
use mathlib.Core.List.{List}
use mathlib.Core.Bool.{Bool, true, false, not, cond, ◌&&◌, ◌||◌}
use mathlib.Core.Logic.{◌⊎◌, inl, inr}
use mathlib.Core.Path.{◌≡◌, refl, ap, ap₂, ◌∙◌}
use Prim.Native.Nat.{ℕ, ◌+◌, ◌*◌, ◌≤◌}
use native.Mathlib.Omega.{arith}
use lib.Dec.{T}
use Rattle.meaning.specs.Lists.{member}
use Rattle.meaning.specs.Expression.{Exp, letter, seq, alt, star, pipe, letters, own}
use Rattle.meaning.specs.Shape.{nullable, threads}
use Rattle.meaning.proofs.ListLaws.{here, there, ∈-left, ∈-right}
use Rattle.meaning.proofs.Step.{Solid}
use Rattle.meaning.proofs.OneWay.{Numbered}
use Rattle.meaning.proofs.Occupied.{Single}
use Rattle.meaning.proofs.Counting.{one, ends, tally, asked_count, Place, left_of_seq, right_of_seq, side_of_alt, body_of_star, left_of_pipe, thread_place, own_place, starts, sums, sums_after}
use Rattle.meaning.proofs.Shifted.{shifted, nullable-shifted}
use Rattle.meaning.proofs.CountingLaws.{SameIn, asked-shifted}
use Rattle.meaning.proofs.Levels.{Still, Sole, one-still, still-starts, starts-letter, starts-seq, starts-alt, starts-star, starts-pipe, sole-left, sole-right, counts, sums-flow, alone}

-- What a walk from each letter met may spend, whichever other letters were met: twice the touches of its place and, for each `@` whose thread is then asked, those of asking it.
-- p: what the threads behind e cost.
unfoldable pub spent : (act : ℕ → Bool) → Exp → Place → (p : ℕ) → ℕ
spent act (letter l) c p = cond (act l.number) (2 * c.whole + p) 0
spent act (seq e f) c p = spent act e (left_of_seq e f c) (cond (nullable f) p 0) + spent act f (right_of_seq e f c) p
spent act (alt e f) c p = spent act e (side_of_alt e c) p + spent act f (side_of_alt f c) p
spent act (star e) c p = spent act e (body_of_star e c) p
spent act (pipe e f) c p = spent act e (left_of_pipe e c) (asked_count f + p) + spent act f (thread_place f) 0

-- of a monitor
abbrev pub spent_after : (act : ℕ → Bool) → Exp → ℕ
spent_after act m = spent act m (own_place m) 0

-- of that, what the threads inside e cost that are asked
unfoldable asks : (act : ℕ → Bool) → Exp → ℕ
asks act (letter l) = 0
asks act (seq e f) = asks act e + asks act f
asks act (alt e f) = asks act e + asks act f
asks act (star e) = asks act e
asks act (pipe e f) = asks act e + (cond (starts act e) (asked_count f) 0 + asks act f)

-- ---- one operator ----

-- two costs are each and each, so no cost is none
cond-plus : (t : Bool) (a b : ℕ) → cond t (a + b) 0 ≡ cond t a 0 + cond t b 0
cond-plus true a b = refl
cond-plus false a b = refl

cond-twice : (t : Bool) (a : ℕ) → cond t (2 * a) 0 ≡ 2 * cond t a 0
cond-twice true a = refl
cond-twice false a = refl

-- a test that holds where another does counts no less
one_grows : (a b : Bool) → (T a → T b) → one a ≤ one b
one_grows true true h = omega arith
one_grows true false h = absurd (h tt)
one_grows false b h = omega arith

-- of two tests one holds where one of two others does
or-grows : (a b c d : Bool) → (T a → T b) → (T c → T d) → T (a || c) → T (b || d)
or-grows true true c d g h t = tt
or-grows true false c d g h t = absurd (g tt)
or-grows false true c d g h t = tt
or-grows false false c d g h t = h t

-- what is behind both operands is behind one of them only, where s and t tell which has a last letter met
seq-behind : (s t n : Bool) (p : ℕ) → T (not (s && t)) → cond s (cond n p 0) 0 + cond t p 0 ≤ cond (t || (n && s)) p 0
seq-behind true true n p h = absurd h
seq-behind true false true p h = omega arith
seq-behind true false false p h = omega arith
seq-behind false true n p h = omega arith
seq-behind false false n p h = omega arith

-- likewise of two sides
alt-behind : (s t : Bool) (p : ℕ) → T (not (s && t)) → cond s p 0 + cond t p 0 ≤ cond (s || t) p 0
alt-behind true true p h = absurd h
alt-behind true false p h = omega arith
alt-behind false t p h = omega arith

module _ (act : ℕ → Bool) where
  -- ---- asking touches no less than not asking ----

  -- what is left where e is not asked is left where it is
  ends-grows : (e : Exp) (a b : Bool) → (T a → T b) → T (ends act e a) → T (ends act e b)
  unfolding ends
  ends-grows (letter l) a b h t = t
  ends-grows (seq e f) a b h t = ends-grows f (ends act e a) (ends act e b) (ends-grows e a b h) t
  ends-grows (alt e f) a b h t = or-grows (ends act e a) (ends act e b) (ends act f a) (ends act f b) (ends-grows e a b h) (ends-grows f a b h) t
  ends-grows (star e) a b h t = or-grows a b (ends act e a) (ends act e b) h (ends-grows e a b h) t
  ends-grows (pipe e f) a b h t = ends-grows e a b h t

  -- and what is touched there is touched here
  tally-grows : (e : Exp) (a b : Bool) → (T a → T b) → tally act e a ≤ tally act e b
  unfolding tally
  tally-grows (letter l) a b h = let x = one_grows a b h in omega (arith, x)
  tally-grows (seq e f) a b h =
      let x = one_grows a b h in
      let y = one_grows (ends act (seq e f) a) (ends act (seq e f) b) (ends-grows (seq e f) a b h) in
      let z = tally-grows e a b h in
      let w = tally-grows f (ends act e a) (ends act e b) (ends-grows e a b h) in
      omega (arith, x, y, z, w)
  tally-grows (alt e f) a b h =
      let x = one_grows a b h in
      let y = one_grows (ends act (alt e f) a) (ends act (alt e f) b) (ends-grows (alt e f) a b h) in
      let z = tally-grows e a b h in
      let w = tally-grows f a b h in
      omega (arith, x, y, z, w)
  tally-grows (star e) a b h =
      let x = one_grows a b h in
      let y = one_grows (ends act (star e) a) (ends act (star e) b) (ends-grows (star e) a b h) in
      let z = tally-grows e (a || ends act e a) (b || ends act e b) (or-grows a b (ends act e a) (ends act e b) h (ends-grows e a b h)) in
      omega (arith, x, y, z)
  tally-grows (pipe e f) a b h =
      let x = one_grows a b h in
      let y = one_grows (ends act (pipe e f) a) (ends act (pipe e f) b) (ends-grows (pipe e f) a b h) in
      let z = tally-grows e a b h in
      let w = tally-grows f (ends act e a) (ends act e b) (ends-grows e a b h) in
      omega (arith, x, y, z, w)

  -- so a thread's letters touch, besides what asking it does, no less than without that
  thread-flag : (f : Exp) → Solid f → Numbered f → Sole act f → (s : Bool) → sums act f (thread_place f) false ≤ cond s (asked_count f) 0 + sums act f (thread_place f) s
  thread-flag f s a o true =
      let x = counts act f s a o 0 true in
      let y = counts act f s a o 0 false in
      let z = tally-grows f false true (λ t. tt) in
      let v = sums-flow act f (thread_place f) true 0 (omega arith) in
      let w = sums-flow act f (thread_place f) false 0 refl in
      omega (arith, x, y, z, v, w)
  thread-flag f s a o false = omega arith

  -- ---- the costs of threads ----

  -- they are part of the sums
  asks-most : (e : Exp) (c : Place) (s : Bool) → asks act e ≤ sums act e c s
  unfolding asks sums
  asks-most (letter l) c s = omega arith
  asks-most (seq e f) c s = let x = asks-most e (left_of_seq e f c) s in let y = asks-most f (right_of_seq e f c) s in omega (arith, x, y)
  asks-most (alt e f) c s = let x = asks-most e (side_of_alt e c) s in let y = asks-most f (side_of_alt f c) s in omega (arith, x, y)
  asks-most (star e) c s = asks-most e (body_of_star e c) s
  asks-most (pipe e f) c s = let x = asks-most e (left_of_pipe e c) s in let y = asks-most f (thread_place f) (starts act e) in omega (arith, x, y)

  -- of two operands one has no last letter met
  not-both : (e f : Exp) → Still act e ⊎ Still act f → T (not (starts act e && starts act f))
  not-both e f (inl q) = rw (still-starts act e q) tt
  not-both e f (inr q) = rw (still-starts act f q) (by (starts act e))
    where
      by : (s : Bool) → T (not (s && false))
      by true = tt
      by false = tt

  -- besides twice the sums where nothing is asked a walk spends p behind last letters, and the costs of threads asked
  spent-parts : (e : Exp) → Solid e → Numbered e → Sole act e → (c : Place) (p : ℕ) → spent act e c p ≤ 2 * sums act e c false + cond (starts act e) p 0 + asks act e
  unfolding spent sums asks own threads
  spent-parts (letter l) s a o c p = let x = cond-plus (act l.number) (2 * c.whole) p in let y = cond-twice (act l.number) c.whole in rw (starts-letter act l) (omega (arith, x, y))
  spent-parts (seq e f) s a o c p =
      let x = spent-parts e s.0 a.1 (sole-left act e f o) (left_of_seq e f c) (cond (nullable f) p 0) in
      let y = spent-parts f s.1 a.2 (sole-right act e f o) (right_of_seq e f c) p in
      let z = seq-behind (starts act e) (starts act f) (nullable f) p (not-both e f (one-still act e f a.0 o.0)) in
      rw (starts-seq act e f) (omega (arith, x, y, z))
  spent-parts (alt e f) s a o c p =
      let x = spent-parts e s.0 a.1 (sole-left act e f o) (side_of_alt e c) p in
      let y = spent-parts f s.1 a.2 (sole-right act e f o) (side_of_alt f c) p in
      let z = alt-behind (starts act e) (starts act f) p (not-both e f (one-still act e f a.0 o.0)) in
      rw (starts-alt act e f) (omega (arith, x, y, z))
  spent-parts (star e) s a o c p = rw (starts-star act e) (spent-parts e s.1 a o (body_of_star e c) p)
  spent-parts (pipe e f) s a o c p =
      let g : Sole act f = (o.1 f (here refl), λ h i. o.1 h (there (∈-right (threads e) i))) in
      let x = spent-parts e s.2 a.1 (o.0, λ h i. o.1 h (there (∈-left (threads f) i))) (left_of_pipe e c) (asked_count f + p) in
      let y = spent-parts f s.3 a.2 g (thread_place f) 0 in
      let z = thread-flag f s.3 a.2 g (starts act e) in
      let w = cond-plus (starts act e) (asked_count f) p in
      let v = cond-plus (starts act f) 0 0 in
      rw (starts-pipe act e f) (omega (arith, x, y, z, w, v))

-- so of a monitor it is at most three times the sums
pub spent-most : (m : Exp) → Solid m → Numbered m → (ns : List ℕ) → Single m ns → spent_after (λ n. member n ns) m ≤ 3 * sums_after (λ n. member n ns) m
spent-most m s a ns o =
    let x = spent-parts (λ n. member n ns) m s a (alone m ns o.line, λ f i. alone f ns (o.each f i)) (own_place m) 0 in
    let y = asks-most (λ n. member n ns) m (own_place m) false in
    let z = cond-plus (starts (λ n. member n ns) m) 0 0 in
    omega (arith, x, y, z)

-- ---- it depends on which letters were met alone, and not on the number that the letters begin with ----

module _ (act act' : ℕ → Bool) where
  pub spent-same : (e : Exp) (c : Place) (p : ℕ) → SameIn act act' e → spent act e c p ≡ spent act' e c p
  unfolding spent letters
  spent-same (letter l) c p h = ap (λ b. cond b (2 * c.whole + p) 0) (h l (here refl))
  spent-same (seq e f) c p h = ap₂ ◌+◌
      (spent-same e (left_of_seq e f c) (cond (nullable f) p 0) (λ x i. h x (∈-left (letters f) i)))
      (spent-same f (right_of_seq e f c) p (λ x i. h x (∈-right (letters e) i)))
  spent-same (alt e f) c p h = ap₂ ◌+◌
      (spent-same e (side_of_alt e c) p (λ x i. h x (∈-left (letters f) i)))
      (spent-same f (side_of_alt f c) p (λ x i. h x (∈-right (letters e) i)))
  spent-same (star e) c p h = spent-same e (body_of_star e c) p h
  spent-same (pipe e f) c p h = ap₂ ◌+◌
      (spent-same e (left_of_pipe e c) (asked_count f + p) (λ x i. h x (∈-left (letters f) i)))
      (spent-same f (thread_place f) 0 (λ x i. h x (∈-right (letters e) i)))

module _ (k : ℕ) (act : ℕ → Bool) where
  spent-shifted : (e : Exp) (c : Place) (p : ℕ) → spent act (shifted k e) c p ≡ spent (λ n. act (k + n)) e c p
  unfolding spent shifted
  spent-shifted (letter l) c p = refl
  spent-shifted (seq e f) c p =
      rw (
        spent-shifted e (left_of_seq (shifted k e) (shifted k f) c) (cond (nullable (shifted k f)) p 0),
        spent-shifted f (right_of_seq (shifted k e) (shifted k f) c) p,
        nullable-shifted k e,
        nullable-shifted k f,
        asked-shifted k f,
      )
  spent-shifted (alt e f) c p =
      rw (spent-shifted e (side_of_alt (shifted k e) c) p, spent-shifted f (side_of_alt (shifted k f) c) p, nullable-shifted k e, nullable-shifted k f)
  spent-shifted (star e) c p = rw (spent-shifted e (body_of_star (shifted k e) c) p, nullable-shifted k e, asked-shifted k e)
  spent-shifted (pipe e f) c p =
      rw (spent-shifted e (left_of_pipe (shifted k e) c) (asked_count (shifted k f) + p), spent-shifted f (thread_place (shifted k f)) 0, nullable-shifted k e, nullable-shifted k f, asked-shifted k f)

  pub spent-after-shifted : (m : Exp) → spent_after act (shifted k m) ≡ spent_after (λ n. act (k + n)) m
  spent-after-shifted m =
      spent-shifted m (own_place (shifted k m)) 0 ∙ ap (λ n. spent (λ n. act (k + n)) m (record { whole = 1 + n; rest = 1 + n; begins = false }) 0) (asked-shifted k m)
