-- What a walk may remember for one tick, and when what it comes to, with its memory, is right. Assumes nothing.
use mathlib.Core.Bool.{Bool, true, false, not, cond}
use mathlib.Core.List.{List, [], ◌∷◌, ◌++◌}
use mathlib.Core.Option.{Option, none, some}
use mathlib.Core.Path.{◌≡◌, refl, sym, ap, ◌∙◌, subst}
use mathlib.Core.Logic.{◌⊎◌, inl, inr, ⊎_elim}
use Prim.Native.Nat.{ℕ, zero, suc, ◌+◌, ◌-◌, ◌<◌, ◌≤◌}
use native.Mathlib.Omega.{arith}
use lib.Dec.{T, T_not, eqb, leb}
use native.Mathlib.Decide.{ℕ_discrete}
use borrow.Author.Tests.{eq-eqb, ne_eqb, leb-false}
use lib.ListN.{length, get_or, set, length-replicate, length-set}
use lib.Seq.{get_or-set_same, get_or-set_other}
use Rattle.meaning.specs.Lists.{◌∈◌}
use Rattle.meaning.specs.Fit.{Tick}
use Rattle.meaning.specs.Positions.{joined, Entered, met, passed, blocked}
use Rattle.meaning.specs.Table.{Table}
use Rattle.meaning.specs.RowWalk.{enter_row}
use Rattle.meaning.proofs.ListLaws.{no-∈, append-∈, ∈-left, ∈-right}
use Rattle.monitor.specs.Walk.{Came, Told, told}
use Rattle.monitor.specs.Letters.{Given, thread_row_of, unthreaded}
use Rattle.monitor.specs.Ticks.{and_then, empty_memory, if_marked, each_marked, shut_row, shut_for, threaded_among, shut_busy}
use Rattle.monitor.proofs.Padded.{zeros-at}

-- ---- stores

-- an element after a store
pub after-set : (M : List ℕ) (i j v : ℕ) → i < length M → ((j ≡ i) × (get_or (set M i v) j 0 ≡ v)) ⊎ (get_or (set M i v) j 0 ≡ get_or M j 0)
after-set M i j v h = go (ℕ_discrete j i)
  where
    go : Dec (j ≡ i) → ((j ≡ i) × (get_or (set M i v) j 0 ≡ v)) ⊎ (get_or (set M i v) j 0 ≡ get_or M j 0)
    go (yes e) = inl (e, rw e (get_or-set_same M i v 0 h))
    go (no e) = inr (get_or-set_other M i j v 0 e)

-- ---- what is kept

-- what is known from entering a row: the number that it is kept as, and the letters that are marked where it is kept
pub record Known : Type 0 where
  pub code : ℕ
  pub letters : List ℕ

abbrev pub entered : Entered → Known
entered (met l) = record { code = 3; letters = l ∷ [] }
entered passed = record { code = 2; letters = [] }
entered blocked = record { code = 1; letters = [] }

-- of each row
abbrev pub Rows : Type 0
Rows = ℕ → Known

-- those of R at tick t, N calls deep, where the rows of busy threads are shut
abbrev pub rows_of : (shut : ℕ → Bool) → (N : ℕ) → Table → Tick → Rows
rows_of shut N R t r = entered (enter_row shut N R r t)

-- something is kept of a row that was entered
pub entered-lit : (a : Entered) → (entered a).code ≡ 0 → ⊥
entered-lit (met l) e = omega (arith, e)
entered-lit passed e = omega (arith, e)
entered-lit blocked e = omega (arith, e)

-- letter l is marked in the memory
abbrev pub Marked : List ℕ → ℕ → Type 0
Marked M l = get_or M (1024 + l) 0 ≡ 1

-- a is kept as the number k, and its letters are marked
pub record Kept (a : Known) (k : ℕ) (M : List ℕ) : Type 0 where
  pub same : k ≡ a.code
  pub marked : (l : ℕ) → l ∈ a.letters → Marked M l

-- what the memory has of the first n rows is right, of those that are shut it has something, and a letter is marked (1) or not (0)
pub record Memory (shut : ℕ → Bool) (F : Rows) (n : ℕ) (M : List ℕ) : Type 0 where
  pub long : length M ≡ 1280
  pub rows : (r : ℕ) → r < n → (get_or M r 0 ≡ 0 → ⊥) → Kept (F r) (get_or M r 0) M
  pub kept : (r : ℕ) → r < n → T (shut r) → get_or M r 0 ≡ 0 → ⊥
  pub bits : (l : ℕ) → l < 256 → get_or M (1024 + l) 0 ≤ 1

-- ---- a tick's start: some rows are kept as blocked, and nothing else

pub record Begun (M : List ℕ) : Type 0 where
  pub long : length M ≡ 1280
  pub rows : (r : ℕ) → r < 1024 → get_or M r 0 ≤ 1
  pub letters : (l : ℕ) → get_or M (1024 + l) 0 ≡ 0

-- these rows
abbrev pub shut_in : List ℕ → ℕ → Bool
shut_in M r = not (eqb (get_or M r 0) 0)

pub empty-begun : Begun empty_memory
empty-begun = record {
  long = length-replicate {A = ℕ} 1280 0;
  rows = λ r h. rw (zeros-at 1280 r) (omega arith);
  letters = λ l. zeros-at 1280 (1024 + l);
}

shut-begun : (r : ℕ) (M : List ℕ) → Begun M → Begun (shut_row r M)
shut-begun r M b = by (eqb r 0) (leb 1024 r) refl
  where
    by : (z o : Bool) → leb 1024 r ≡ o → Begun (cond z M (cond o M (set M r 1)))
    by true o e = b
    by false true e = b
    by false false e =
        let low = leb-false 1024 r e in
        record {
          long = length-set M r 1 ∙ b.long;
          rows = λ i h. ⊎_elim (λ y. omega (arith, y.1)) (λ y. let x = b.rows i h in omega (arith, x, y)) (after-set M r i 1 (let x = b.long in omega (arith, x, low)));
          letters = λ l. get_or-set_other M r (1024 + l) 1 0 (λ q. omega (arith, q, low)) ∙ b.letters l;
        }

module _ (g : Given) (K : List ℕ) where
  pub shut_one : (l : ℕ) (M : List ℕ) → Begun M → Begun (if_marked K (shut_for g) l M)
  shut_one l M b = by (eqb (get_or K l 0) 0)
    where
      by : (z : Bool) → Begun (cond z M (shut_for g l M))
      by true = b
      by false = shut-begun (thread_row_of g l) M b

  shut-all : (n l : ℕ) (M : List ℕ) → Begun M → Begun (each_marked K (shut_for g) n l M)
  unfolding each_marked
  shut-all zero l M b = b
  shut-all (suc n) l M b = shut-all n (suc l) (if_marked K (shut_for g) l M) (shut_one l M b)

  pub begun : (n : ℕ) → Begun (shut_busy g K n empty_memory)
  begun n = shut-all (threaded_among g n - unthreaded g) (unthreaded g) empty_memory empty-begun

-- a row that is shut is blocked, whatever the count
enter-shut : (shut : ℕ → Bool) (N : ℕ) (R : Table) (r : ℕ) (t : Tick) → shut r ≡ true → enter_row shut N R r t ≡ blocked
unfolding enter_row
enter-shut shut zero R r t e = refl
enter-shut shut (suc N) R r t e = rw e

-- so all that is known is right
pub memory-begun : (N : ℕ) (R : Table) (t : Tick) (n : ℕ) (M : List ℕ) → n ≤ 1024 → Begun M → Memory (shut_in M) (rows_of (shut_in M) N R t) n M
memory-begun N R t n M few b = record {
  long = b.long;
  rows = λ r h k.
      let e : enter_row (shut_in M) N R r t ≡ blocked = enter-shut (shut_in M) N R r t (ap not (ne_eqb (get_or M r 0) 0 k)) in
      let x = b.rows r (omega (arith, few)) in
      let one : get_or M r 0 ≡ 1 = not-zero (get_or M r 0) x k in
      rw e (record { same = one; marked = λ l i. absurd (no-∈ i) });
  kept = λ r h u z. T_not (eqb (get_or M r 0) 0) u (subst T (sym (eq-eqb (get_or M r 0) 0 z)) tt);
  bits = λ l h. let x = b.letters l in omega (arith, x);
}
  where
    not-zero : (v : ℕ) → v ≤ 1 → (v ≡ 0 → ⊥) → v ≡ 1
    not-zero zero h k = absurd (k refl)
    not-zero (suc zero) h k = refl
    not-zero (suc (suc v)) h k = absurd (omega (arith, h))

-- and nothing is marked
pub begun-unmarked : (M : List ℕ) → Begun M → (l : ℕ) → Marked M l → ⊥
begun-unmarked M b l m = let x = b.letters l in omega (arith, x, m)

-- ---- what a walk comes to; Good says which memories are right

-- there is a way
abbrev pub found : Option (List ℕ) → Bool
found none = false
found (some ns) = true

-- the letters of the way
abbrev pub letters_of : Option (List ℕ) → List ℕ
letters_of none = []
letters_of (some ns) = ns

module _ (Good : List ℕ → Type 0) where
  -- the letters marked in M' are those marked in M, and ns
  pub record Exactly (M ns M' : List ℕ) : Type 0 where
    pub good : Good M'
    pub grows : (l : ℕ) → Marked M l → Marked M' l
    pub adds : (l : ℕ) → l ∈ ns → Marked M' l
    pub only : (l : ℕ) → Marked M' l → Marked M l ⊎ (l ∈ ns)

  -- a row was entered with the memory M, which came to x, and rightly so if it is a
  pub record Enters (a : Entered) (M : List ℕ) (x : Came) : Type 0 where
    pub same : x.code ≡ (entered a).code
    pub marks : Exactly M (entered a).letters x.memory

  -- a walk from M answered x, and rightly so if its way is a; where there is none, nothing is said of the memory
  pub record Goes (a : Option (List ℕ)) (M : List ℕ) (x : Told) : Type 0 where
    pub yes : x.yes ≡ found a
    pub marks : T (found a) → Exactly M (letters_of a) x.memory

module _ {Good : List ℕ → Type 0} where
  -- nothing more is marked
  pub exactly-same : {M ns : List ℕ} → Good M → ((l : ℕ) → l ∈ ns → Marked M l) → Exactly Good M ns M
  exactly-same g h = record { good = g; grows = λ l m. m; adds = h; only = λ l m. inl m }

  pub exactly-none : {M : List ℕ} → Good M → Exactly Good M [] M
  exactly-none g = exactly-same g (λ l i. absurd (no-∈ i))

  pub exactly-then : {M M' M'' : List ℕ} (ns ks : List ℕ) → Exactly Good M ns M' → Exactly Good M' ks M'' → Exactly Good M (ns ++ ks) M''
  exactly-then ns ks a b = record {
    good = b.good;
    grows = λ l m. b.grows l (a.grows l m);
    adds = λ l i. ⊎_elim (λ j. b.grows l (a.adds l j)) (b.adds l) (append-∈ ns i);
    only = λ l m. ⊎_elim (λ k. ⊎_elim inl (λ j. inr (∈-left ks j)) (a.only l k)) (λ j. inr (∈-right ns j)) (b.only l m);
  }

  -- the order does not matter
  pub exactly-swapped : {M M' : List ℕ} (ns ks : List ℕ) → Exactly Good M (ns ++ ks) M' → Exactly Good M (ks ++ ns) M'
  exactly-swapped ns ks x = record {
    good = x.good;
    grows = x.grows;
    adds = λ l i. x.adds l (⊎_elim (∈-right ns) (∈-left ks) (append-∈ ks i));
    only = λ l m. ⊎_elim inl (λ i. inr (⊎_elim (∈-right ks) (∈-left ns) (append-∈ ns i))) (x.only l m);
  }

  -- there is no way; there is nothing to go on with
  pub goes-not : {M : List ℕ} {x : Told} → x.yes ≡ false → Goes Good none M x
  goes-not e = record { yes = e; marks = λ f. absurd f }

  pub goes_over : {M : List ℕ} → Good M → Goes Good (some []) M (told true M)
  goes_over g = record { yes = refl; marks = λ f. exactly-none g }

  -- the one, and where it goes on the other
  pub goes_then : (a b : Option (List ℕ)) {M : List ℕ} {x : Told} (f : List ℕ → Told) → Goes Good a M x → ((N : List ℕ) → Good N → Goes Good b N (f N))
      → Goes Good (joined a b) M (and_then x f)
  goes_then none b f p q = rw p.yes (goes-not refl)
  goes_then (some ns) none {x} f p q = rw p.yes (goes-not (q x.memory (p.marks tt).good).yes)
  goes_then (some ns) (some ks) {x} f p q =
      let z = q x.memory (p.marks tt).good in
      rw p.yes (record { yes = z.yes; marks = λ s. exactly-then ns ks (p.marks tt) (z.marks tt) })
